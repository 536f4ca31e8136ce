-- What is read from the words is what the plain state has.
use Rattle.std.proofs.Common.{◌≡◌, ◌<◌, true, ℕ, List, length, get_or, Option, None, Some, ap, sym, ◌∙◌}
use Rattle.std.proofs.lemmas.List.{length-map}
use Rattle.std.proofs.Math.ListN.{get_or-map}
use Rattle.bal_layout.specs.declared.name.Name.{Name}
use Rattle.bal_meet.specs.Decode.{Decodes, roots_of}
use Rattle.bal_meet.proofs.Lists.{all-or}
use Rattle.bal_meet.proofs.Present.{present-is}
use Rattle.bal_meet.proofs.Roots.{global-read, register-read}
use Rattle.bal_model.specs.Entries.{Spot}
use Rattle.bal_rules.specs.Board.{Placed, names_placed}
use Rattle.bal_layout.specs.Names.{is_among}
use Rattle.bal_model.specs.Plain.{State, global, object, reference, reference_count, refs_of, register, value, value_count, values_of}
use Rattle.bal_roots.specs.Roots.{global_place, register_place}
use Rattle.bal_words.specs.Shown.{Finds, ShowsRoots, name_behind, object_of}
use Rattle.bal_words.specs.Things.{Thing, Things}

-- A root is read.

-- each root's word leads to what the root holds
root-read : (things : Things) (roots : List ℕ) (names : List (Option Name)) (i : ℕ) → ShowsRoots things roots names
    → (get_or names i None ≡ name_behind things (get_or roots i 0)) × Finds things (get_or roots i 0)
root-read things roots names i r = (
  ap (λ ns. get_or ns i None) (sym r.each) ∙ get_or-map (name_behind things) roots i 0,
  all-or (Finds things) roots i 0 r.found tt,
)

-- a register's word leads to what the register holds
pub register-decoded : (spot : ℕ → Spot) (things : Things) (roots : List ℕ) (s : State) (present : List Placed) (t r : ℕ)
    → Decodes spot things roots s present → t < 32 → r < 32
    → (register s t r ≡ name_behind things (get_or roots (register_place t r) 0)) × Finds things (get_or roots (register_place t r) 0)
register-decoded spot things roots s present t r d thread number =
    let at = root-read things roots (roots_of s) (register_place t r) d.held in
    (sym (register-read s t r d.state thread number) ∙ at.0, at.1)

-- and so does a global's
pub global-decoded : (spot : ℕ → Spot) (things : Things) (roots : List ℕ) (s : State) (present : List Placed) (g : ℕ)
    → Decodes spot things roots s present → g < 64
    → (global s g ≡ name_behind things (get_or roots (global_place g) 0)) × Finds things (get_or roots (global_place g) 0)
global-decoded spot things roots s present g d number =
    let at = root-read things roots (roots_of s) (global_place g) d.held in
    (sym (global-read s g d.state) ∙ at.0, at.1)

-- An object is read.

-- what starts in the heap is an object of the plain state
pub object-shown : {spot : ℕ → Spot} {things : Things} {roots : List ℕ} {s : State} {present : List Placed} {a : ℕ} {x : Thing}
    → Decodes spot things roots s present → things a ≡ Some x
    → (is_among x.name (names_placed present) ≡ true) × (object s x.name ≡ Some (object_of things x))
object-shown {things = things} {s = s} {present = present} {a = a} {x = x} d is =
    present-is s present x.name (object_of things x) (d.objects.each a x is)

-- it has as many references as its words
pub references-decoded : (spot : ℕ → Spot) (things : Things) (roots : List ℕ) (s : State) (present : List Placed) (a : ℕ) (x : Thing)
    → Decodes spot things roots s present → things a ≡ Some x → reference_count s x.name ≡ length x.refs
references-decoded spot things roots s present a x d is = ap (λ o. length (refs_of o)) (object-shown d is).1 ∙ length-map x.refs (name_behind things)

-- a reference is what its word leads to
pub reference-decoded : (spot : ℕ → Spot) (things : Things) (roots : List ℕ) (s : State) (present : List Placed) (a slot : ℕ) (x : Thing)
    → Decodes spot things roots s present → things a ≡ Some x → slot < length x.refs
    → (reference s x.name slot ≡ name_behind things (get_or x.refs slot 0)) × Finds things (get_or x.refs slot 0)
reference-decoded spot things roots s present a slot x d is within = (
  ap (λ o. get_or (refs_of o) slot None) (object-shown d is).1 ∙ get_or-map (name_behind things) x.refs slot 0,
  d.objects.found a x is slot 0 within,
)

-- it has as many numbers
pub numbers-decoded : (spot : ℕ → Spot) (things : Things) (roots : List ℕ) (s : State) (present : List Placed) (a : ℕ) (x : Thing)
    → Decodes spot things roots s present → things a ≡ Some x → value_count s x.name ≡ length x.values
numbers-decoded spot things roots s present a x d is = ap (λ o. length (values_of o)) (object-shown d is).1

-- and each is the one in its words
pub number-decoded : (spot : ℕ → Spot) (things : Things) (roots : List ℕ) (s : State) (present : List Placed) (a slot : ℕ) (x : Thing)
    → Decodes spot things roots s present → things a ≡ Some x → value s x.name slot ≡ get_or x.values slot 0
number-decoded spot things roots s present a slot x d is = ap (λ o. get_or (values_of o) slot 0) (object-shown d is).1
