-- Objects that were moved: carried word by word to other addresses, and then all references mended.
use Rattle.std.specs.Prelude.{◌≡◌, ℕ, map, All, Bool, IfSome, IsTrue, Some, None}
use Rattle.std.specs.Option.{option_map}
use Rattle.bal_layout.specs.declared.name.Name.{Name}
use Rattle.bal_layout.specs.Graph.{Object, Graph}
use Rattle.bal_layout.specs.References.{target_of, word_for}
use Rattle.bal_words.specs.Things.{Thing, Things, with_refs}

-- where a reference word leads after the move
abbrev pub word_to : (ℕ → ℕ) → ℕ → ℕ
word_to to word = word_for (option_map to (target_of word))

-- the word is null, or leads to an object that is kept
abbrev pub LeadsToKept : (ℕ → Bool) → ℕ → Type 0
LeadsToKept keeps word = IfSome (target_of word) (λ address. IsTrue (keeps address))

-- the objects that are kept start at their new addresses, with their words as they were, and nothing else starts anywhere
pub record Carried (before after : Things) (keeps : ℕ → Bool) (to : ℕ → ℕ) : Type 0 where
  pub carried : (a : ℕ) (x : Thing) → before a ≡ Some x → IsTrue (keeps a) → after (to a) ≡ Some x
  pub only : (b : ℕ) (x : Thing) → after b ≡ Some x → (a : ℕ) × (before a ≡ Some x) × IsTrue (keeps a) × (to a ≡ b)

-- each reference leads to the new address of what it led to
pub record Fixed (before after : Things) (to : ℕ → ℕ) : Type 0 where
  pub each : (a : ℕ) → after a ≡ option_map (with_refs (map (word_to to))) (before a)

-- what is kept refers only to what is kept
pub record Closed (things : Things) (keeps : ℕ → Bool) : Type 0 where
  pub each : (a : ℕ) (x : Thing) → things a ≡ Some x → IsTrue (keeps a) → All (LeadsToKept keeps) x.refs

-- the graph h is g without the objects that are not kept
pub record Kept (things : Things) (keeps : ℕ → Bool) (g h : Graph) : Type 0 where
  pub each : (a : ℕ) (x : Thing) → things a ≡ Some x → IsTrue (keeps a) → h x.name ≡ g x.name
  pub only : (n : Name) (o : Object) → h n ≡ Some o
      → (a : ℕ) × ((x : Thing) × (things a ≡ Some x) × IsTrue (keeps a) × (x.name ≡ n))

-- the object at one address starts at another, and nothing else is changed; the two may be the same
pub record Relocated (before after : Things) (from to : ℕ) : Type 0 where
  pub here : after to ≡ before from
  pub gone : (to ≡ from → ⊥) → after from ≡ None
  pub elsewhere : (b : ℕ) → (b ≡ from → ⊥) → (b ≡ to → ⊥) → after b ≡ before b

-- the map of addresses leads from here to there, and from all others to where it did
pub record Redirected (old new : ℕ → ℕ) (from to : ℕ) : Type 0 where
  pub here : new from ≡ to
  pub elsewhere : (b : ℕ) → (b ≡ from → ⊥) → new b ≡ old b
