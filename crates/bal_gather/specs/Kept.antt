-- How the views of a heap are kept. The table is borrowed, without the regions that are out. Beside it the chosen regions are a set, so that it takes one look
-- to tell whether a region is chosen, and the numbers of objects stand by region and offset.
use Rattle.std.specs.Prelude.{◌≡◌, ℕ, ◌+◌, ◌<◌, ◌≤◌, List, [], length, map, slice_index_or}
use Rattle.bal_layout.specs.Addresses.{address_in}
use Rattle.bal_layout.specs.References.{word_for}
use Rattle.bal_gather.specs.Lent.{Lent, MayBeChosen}
use Rattle.bal_gather.specs.Numbers.{number_of, starts_of}
use Rattle.bal_gather.specs.declared.chosen.Chosen.TheInside as chosen
use Rattle.bal_gather.specs.declared.numbered.Numbered.TheInside as numbered
use Rattle.bal_gather.specs.declared.outside.Outside.TheInside as outside

abbrev pub seen_inside : chosen.Inside → Lent
seen_inside c = record { table = c.occupied.now.table; regions = c.regions.now }

abbrev pub seen_outside : outside.Inside → Lent
seen_outside o = record { table = o.occupied.now.table; regions = o.members.members }

-- there is room for the slots of a card
abbrev pub HasRoom : outside.Inside → Type 0
HasRoom o = 64 ≤ o.slots.spare + length o.slots.list

pub record AreLent (c : chosen.Inside) : Type 0 where
  pub may : MayBeChosen c.occupied.now.table c.regions.now
  pub members : c.members.members ≡ c.regions.now

-- the word at an offset of a region, of words that stand by region. Past the end it is zero
abbrev pub word_in : List (List ℕ) → ℕ → ℕ → ℕ
word_in words q offset = slice_index_or (slice_index_or words q []) offset 0

-- the words of the regions up to one say which number the object has that starts at an offset: none is zero
abbrev pub TellNumbers : Lent → List (List ℕ) → ℕ → Type 0
TellNumbers l words end = (q offset : ℕ) → q < end → offset < l.table.shape.words
    → word_in words q offset ≡ word_for (number_of l (address_in l.table.shape q offset))

abbrev pub words_of : numbered.Inside → List (List ℕ)
words_of n = map (λ v. v.items) n.numbers.items

pub record AreNumbered (n : numbered.Inside) : Type 0 where
  pub starts : n.addresses.items ≡ starts_of n.chosen
  pub regions : length (words_of n) ≡ n.chosen.table.shape.regions
  pub numbers : TellNumbers n.chosen (words_of n) n.chosen.table.shape.regions
