-- What a note says of the words: more than a legal run asks of it, since a journal does not tell where in a region an object
-- lies.
use Rattle.std.specs.Prelude.{◌≡◌, ⊤, ℕ, Some, option_map}
use Rattle.bal_barrier.specs.Coverage.{Crosses}
use Rattle.bal_layout.specs.Addresses.{card_of, region_of}
use Rattle.bal_layout.specs.declared.name.Name.{Name}
use Rattle.bal_model.specs.Entries.{Entry, note}
use Rattle.bal_table.specs.Table.{Table, things_of}
use Rattle.bal_words.specs.Things.{Thing}

-- the reference in a slot of the object with this name leads from another region into this one, and the slot lies on the card
pub record IsTrueNote (t : Table) (q card : ℕ) (holder : Name) (slot : ℕ) : Type 0 where
  pub address : ℕ
  pub place : ℕ
  pub target : ℕ
  pub named : option_map (λ (x : Thing). x.name) (things_of t address) ≡ Some holder
  pub crosses : Crosses t address slot place target
  pub into : region_of t.shape target ≡ q
  pub on : card_of place ≡ card

-- so it is if the event is a note
abbrev pub IsTrueOf : Table → Entry → Type 0
IsTrueOf t (note q card holder slot) = IsTrueNote t q card holder slot
IsTrueOf t e = ⊤
