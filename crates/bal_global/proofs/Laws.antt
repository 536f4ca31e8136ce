-- What the laws of the crates below say that the proofs cite.
use Rattle.std.proofs.Common.{◌≡◌, ℕ, ◌↔◌, Bool, IsTrue, List, Some}
use Rattle.bal_layout.specs.Header.{IsHeaderOf, header_of}
use Rattle.bal_layout.specs.Names.{is_among}
use Rattle.bal_layout.specs.declared.header.Header.{Header}
use Rattle.bal_meet.specs.Decode.{Decodes}
use Rattle.bal_meet.specs.Heap.{ArePlaced, Heap, Meets, Moves, spot_at}
use Rattle.bal_model.specs.Entries.{Spot}
use Rattle.bal_model.specs.Plain.{State}
use Rattle.bal_model.specs.Walk.{reachable}
use Rattle.bal_rules.specs.Board.{Board, Placed}
use Rattle.bal_words.specs.Paths.{EndsPath}
use Rattle.bal_words.specs.Things.{Thing, Things}

-- two words are a header's if they are read as that header
abbrev pub HeadersAreRead : Type 0
HeadersAreRead = (h : Header) (first second : ℕ) → header_of first second ≡ Some h → IsHeaderOf h first second

-- a path ends where a walk does
abbrev pub PathsAreWalks : Type 0
PathsAreWalks = (spot : ℕ → Spot) (things : Things) (roots : List ℕ) (s : State) (present : List Placed) (a : ℕ) (x : Thing)
    → Decodes spot things roots s present → things a ≡ Some x → (EndsPath things roots a ↔ IsTrue (is_among x.name (reachable s)))

-- where objects were moved, the heap meets the board that has them there
abbrev pub MovesAreMet : Type 0
MovesAreMet = (before after : Heap) (middle : Things) (keeps : ℕ → Bool) (to : ℕ → ℕ) (b : Board) (now : List Placed)
    → Meets before b → Moves before after middle keeps to → ArePlaced before.things (spot_at after) keeps to now
    → Meets after (record b { present = now; regions = after.account.regions; current = after.account.current })
