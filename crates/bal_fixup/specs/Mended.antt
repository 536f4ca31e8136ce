-- References that were mended: each leads to where its target went.
use Rattle.std.specs.Prelude.{◌≡◌, ℕ, ◌≤◌, ◌^◌, ◌↔◌, All, Option, map}
use Rattle.std.specs.Option.{option_map}
use Rattle.bal_table.specs.Slots.{IsSlot}
use Rattle.bal_table.specs.Table.{Table, land_at}
use Rattle.bal_words.specs.Moved.{word_to}
use Rattle.bal_words.specs.Paths.{words_in}
use Rattle.bal_words.specs.Things.{Thing, Things, with_refs}

-- a word that is null, or leads to an address of 32 bits
abbrev pub IsReference : ℕ → Type 0
IsReference word = word ≤ 2 ^ 32

-- each reference word of each object is one
pub record AreReferences (things : Things) : Type 0 where
  pub each : (a : ℕ) → All IsReference (words_in (things a))

-- what starts somewhere, with each of its references mended once
abbrev pub mended_thing : (ℕ → ℕ) → Option Thing → Option Thing
mended_thing to x = option_map (with_refs (map (word_to to))) x

-- only words of the heap are others: in each region objects start where they did, and as many words are given out, and each
-- slot lies where it lay
pub record HasSameStarts (old new : Table) : Type 0 where
  pub table : new ≡ record old { lands = new.lands }
  pub starts : (q : ℕ) → (land_at new q).starts ≡ (land_at old q).starts
  pub used : (q : ℕ) → (land_at new q).used ≡ (land_at old q).used
  pub slots : (a i p : ℕ) → IsSlot new a i p ↔ IsSlot old a i p
