-- A region's remembered list, as contracts see it, and what noting a card does to it.
use Rattle.std.specs.Prelude.{◌≡◌, ◌&&◌, ℕ, Bool, true, false, not, List, [], length, nat_le, nat_lt, Option, Some, None, refl, if◌then◌else◌}
use Rattle.std.specs.Coded.{Coded, code_by, coded_option, coded_list, coded_ℕ}
use Rattle.std.specs.List.{filter}
use Rattle.bal_base.specs.Bits.{is_member, with_member}
use Rattle.bal_remember.specs.declared.list.Noted.{Noted}
use Rattle.bal_remember.specs.declared.list.Noted.TheVariants as noted

-- the cards with references into the region, ascending, or more of them than the list may hold
pub data Remembered : Type 0 where
  cards : List ℕ → Remembered
  overflowed : Remembered

-- it is stored as the cards, if it has not overflowed
abbrev pub cards_in : Remembered → Option (List ℕ)
cards_in (cards cs) = Some cs
cards_in overflowed = None

abbrev pub remembered_of : Option (List ℕ) → Remembered
remembered_of (Some cs) = cards cs
remembered_of None = overflowed

pub remembered-split : (r : Remembered) → remembered_of (cards_in r) ≡ r
remembered-split (cards cs) = refl
remembered-split overflowed = refl

abbrev pub remembered_code : Coded Remembered
remembered_code = code_by (Option (List ℕ)) (coded_option (coded_list coded_ℕ)) cards_in remembered_of remembered-split

-- an overflowed list has no cards to tell of
abbrev pub remembered_by : List ℕ → Bool → Remembered
remembered_by cs true = overflowed
remembered_by cs false = cards cs

-- Look-ups.

abbrev pub is_overflowed : Remembered → Bool
is_overflowed (cards cs) = false
is_overflowed overflowed = true

-- the cards that are listed. An overflowed list tells of none
abbrev pub listed : Remembered → List ℕ
listed (cards cs) = cs
listed overflowed = []

-- references on the card are known of: it is listed, or the list has overflowed, and any card may have some
abbrev pub remembers : Remembered → ℕ → Bool
remembers (cards cs) card = is_member cs card
remembers overflowed card = true

-- Changes.

-- what a list of at most so many cards answers when a card is noted
abbrev pub answer_to : ℕ → ℕ → Remembered → Noted
answer_to limit card (cards cs) = if is_member cs card then noted.Known else if nat_lt (length cs) limit then noted.Added else noted.Overflowed
answer_to limit card overflowed = noted.Silent

-- and what it is then
abbrev pub with_card : ℕ → ℕ → Remembered → Remembered
with_card limit card (cards cs) = if is_member cs card then cards cs else if nat_lt (length cs) limit then cards (with_member card cs) else overflowed
with_card limit card overflowed = overflowed

-- a list without the cards from one up to another, which stays
abbrev pub without_between : ℕ → ℕ → Remembered → Remembered
without_between from to (cards cs) = cards (filter (λ card. not (nat_le from card && nat_lt card to)) cs)
without_between from to overflowed = overflowed
