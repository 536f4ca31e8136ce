-- What a heap shows once its objects were moved.
use Rattle.std.proofs.Common.{◌≡◌, ℕ, zero, suc, ◌⊎◌, inl, inr, Bool, true, false, List, map, Option, Some, None, get_or, refl, ap, sym, subst, ◌∙◌}
use Rattle.std.specs.Prelude.{All, IsTrue, is_some}
use Rattle.std.specs.Option.{option_map}
use Rattle.std.proofs.lemmas.Bool.{false≢true}
use Rattle.std.proofs.lemmas.List.Elements.{All-map}
use Rattle.std.proofs.lemmas.Option.{none-some, same_Some}
use Rattle.bal_layout.specs.declared.name.Name.{Name}
use Rattle.bal_layout.specs.Graph.{Graph, Object}
use Rattle.bal_words.specs.Moved.{Carried, Closed, Fixed, Kept, LeadsToKept, Redirected, Relocated, word_to}
use Rattle.bal_words.specs.Shown.{Finds, Shows, ShowsRoots, name_behind, object_of}
use Rattle.bal_words.specs.Things.{Thing, Things, Updated, with_refs}
use Rattle.bal_words.proofs.Facts.{map-agree_over, mapped-from, same-or, there}
use Rattle.bal_words.proofs.Seen.{object_with}

-- an object whose references are mended
abbrev pub mended : (ℕ → ℕ) → Thing → Thing
mended to = with_refs (map (word_to to))

module _ (before middle after : Things) (keeps : ℕ → Bool) (to : ℕ → ℕ) (c : Carried before middle keeps to) (f : Fixed middle after to) where
  -- a kept object stands mended at its new address
  pub stands-mended : (a : ℕ) (x : Thing) → before a ≡ Some x → IsTrue (keeps a) → after (to a) ≡ Some (mended to x)
  stands-mended a x is kept = f.each (to a) ∙ ap (option_map (mended to)) (c.carried a x is kept)

  -- and what stands anywhere is a kept object
  pub stood-before : (b : ℕ) (y : Thing) → after b ≡ Some y
      → (a : ℕ) × ((x : Thing) × (before a ≡ Some x) × IsTrue (keeps a) × (to a ≡ b) × (mended to x ≡ y))
  stood-before b y is =
      let from = mapped-from (mended to) (middle b) y (sym (f.each b) ∙ is) in
      let old = c.only b from.0 from.1.0 in
      (old.0, (from.0, old.1, old.2, old.3, from.1.1))

  pub behind-moved : (word : ℕ) → Finds before word → LeadsToKept keeps word → name_behind after (word_to to word) ≡ name_behind before word
  behind-moved zero finds kept = refl
  behind-moved (suc a) finds kept =
      let at = there (before a) finds in
      ap (option_map (λ (z : Thing). z.name)) (stands-mended a at.0 at.1 kept) ∙ sym (ap (option_map (λ (z : Thing). z.name)) at.1)

  pub finds-moved : (word : ℕ) → Finds before word → LeadsToKept keeps word → Finds after (word_to to word)
  finds-moved zero finds kept = tt
  finds-moved (suc a) finds kept =
      let at = there (before a) finds in
      ap is_some (stands-mended a at.0 at.1 kept)

  pub object-moved : (x : Thing) → All (Finds before) x.refs → All (LeadsToKept keeps) x.refs → object_of after (mended to x) ≡ object_of before x
  object-moved x finds kept = ap (object_with x.kind x.values)
      (map-agree_over (name_behind after) (word_to to) (name_behind before) x.refs
      (λ k d lt. behind-moved (get_or x.refs k d) (finds k d lt) (kept k d lt)))

  pub all-found_moved : (words : List ℕ) → All (Finds before) words → All (LeadsToKept keeps) words → All (Finds after) (map (word_to to) words)
  all-found_moved words finds kept = All-map (Finds after) (word_to to) words (λ k d lt. finds-moved (get_or words k d) (finds k d lt) (kept k d lt))

pub shows-moved : (before middle after : Things) (g h : Graph) (keeps : ℕ → Bool) (to : ℕ → ℕ)
    → Shows before g → Carried before middle keeps to → Fixed middle after to → Closed before keeps → Kept before keeps g h → Shows after h
shows-moved before middle after g h keeps to s c f closed kept = record { each = each; every = every; once = once; found = found }
  where
    each : (b : ℕ) (y : Thing) → after b ≡ Some y → h y.name ≡ Some (object_of after y)
    each b y is =
        let old = stood-before before middle after keeps to c f b y is in
        let same = object-moved before middle after keeps to c f old.1.0 (s.found old.0 old.1.0 old.1.1) (closed.each old.0 old.1.0 old.1.1 old.1.2) in
        subst (λ (w : Thing). h w.name ≡ Some (object_of after w)) old.1.4
        (kept.each old.0 old.1.0 old.1.1 old.1.2 ∙ (s.each old.0 old.1.0 old.1.1 ∙ ap (λ (o : Object). Some o) (sym same)))

    every : (n : Name) (o : Object) → h n ≡ Some o → (b : ℕ) × ((y : Thing) × (after b ≡ Some y) × (y.name ≡ n))
    every n o is =
        let old = kept.only n o is in
        (to old.0, (mended to old.1.0, stands-mended before middle after keeps to c f old.0 old.1.0 old.1.1 old.1.2, old.1.3))

    once : (b d : ℕ) (y z : Thing) → after b ≡ Some y → after d ≡ Some z → y.name ≡ z.name → b ≡ d
    once b d y z one two name =
        let first = stood-before before middle after keeps to c f b y one in
        let second = stood-before before middle after keeps to c f d z two in
        let old : first.1.0.name ≡ second.1.0.name = ap (λ (w : Thing). w.name) first.1.4 ∙ (name ∙ sym (ap (λ (w : Thing). w.name) second.1.4)) in
        sym first.1.3 ∙ (ap to (s.once first.0 second.0 first.1.0 second.1.0 first.1.1 second.1.1 old) ∙ second.1.3)

    found : (b : ℕ) (y : Thing) → after b ≡ Some y → All (Finds after) y.refs
    found b y is =
        let old = stood-before before middle after keeps to c f b y is in
        subst (λ (w : Thing). All (Finds after) w.refs) old.1.4
        (all-found_moved before middle after keeps to c f old.1.0.refs (s.found old.0 old.1.0 old.1.1) (closed.each old.0 old.1.0 old.1.1 old.1.2))

pub roots-moved : (before middle after : Things) (keeps : ℕ → Bool) (to : ℕ → ℕ) (words : List ℕ) (names : List (Option Name))
    → ShowsRoots before words names → Carried before middle keeps to → Fixed middle after to
    → All (LeadsToKept keeps) words → ShowsRoots after (map (word_to to) words) names
roots-moved before middle after keeps to words names r c f kept = record {
  each = map-agree_over (name_behind after) (word_to to) (name_behind before) words
      (λ k d lt. behind-moved before middle after keeps to c f (get_or words k d) (r.found k d lt) (kept k d lt)) ∙ r.each;
  found = all-found_moved before middle after keeps to c f words r.found kept;
}

-- One step after the other.

pub carried-start : (things : Things) (keeps : ℕ → Bool) → ((a : ℕ) (x : Thing) → things a ≡ Some x → IsTrue (keeps a)) → Carried things things keeps (λ a. a)
carried-start things keeps all = record {
  carried = λ a x is kept. is;
  only = λ b x is. (b, is, all b x is, refl);
}

-- what is kept is carried to where another was carried only if it is that other
pub carried-apart : (before middle : Things) (g : Graph) (keeps : ℕ → Bool) (to : ℕ → ℕ) (a b : ℕ) (x z : Thing) → Shows before g
    → Carried before middle keeps to → before a ≡ Some x → IsTrue (keeps a) → before b ≡ Some z → IsTrue (keeps b) → to b ≡ to a → b ≡ a
carried-apart before middle g keeps to a b x z s c is kept also too same =
    let one : z ≡ x = same_Some _ _ (sym (c.carried b z also too) ∙ (ap middle same ∙ c.carried a x is kept)) in
    s.once b a z x also is (ap (λ (w : Thing). w.name) one)

pub carried-step : (before middle after : Things) (g : Graph) (keeps : ℕ → Bool) (old new : ℕ → ℕ) (from to : ℕ) (x : Thing)
    → Shows before g → Carried before middle keeps old
    → before from ≡ Some x → IsTrue (keeps from) → old from ≡ from → (middle to ≡ None) ⊎ (to ≡ from)
    → Relocated middle after from to → Redirected old new from to → Carried before after keeps new
carried-step before middle after g keeps old new from to x s c is kept still free m d = record { carried = carried; only = only }
  where
    stood : middle from ≡ Some x
    stood = ap middle (sym still) ∙ c.carried from x is kept

    not_from : (a : ℕ) (z : Thing) → before a ≡ Some z → IsTrue (keeps a) → (a ≡ from → ⊥) → old a ≡ from → ⊥
    not_from a z at too other same = other (carried-apart before middle g keeps old from a x z s c is kept at too (same ∙ sym still))

    not_to : (a : ℕ) (z : Thing) → before a ≡ Some z → IsTrue (keeps a) → (a ≡ from → ⊥) → old a ≡ to → ⊥
    not_to a z at too other same = elim free [
      | inl none ↦ none-some z (sym none ∙ (ap middle (sym same) ∙ c.carried a z at too))
      | inr here ↦ not_from a z at too other (same ∙ here)
    ]

    carried : (a : ℕ) (z : Thing) → before a ≡ Some z → IsTrue (keeps a) → after (new a) ≡ Some z
    carried a z at too = elim (same-or a from) [
      | inl same ↦ ap after (ap new same ∙ d.here) ∙ (m.here ∙ (stood ∙ (sym is ∙ (ap before (sym same) ∙ at))))
      | inr other ↦ ap after (d.elsewhere a other)
          ∙ (m.elsewhere (old a) (not_from a z at too other) (not_to a z at too other) ∙ c.carried a z at too)
    ]

    elsewhere : (b : ℕ) (z : Thing) → after b ≡ Some z → (b ≡ to → ⊥) → (b ≡ from → ⊥) → (a : ℕ) × (before a ≡ Some z) × IsTrue (keeps a) × (new a ≡ b)
    elsewhere b z at other apart =
        let was = c.only b z (sym (m.elsewhere b apart other) ∙ at) in
        (was.0, was.1, was.2, d.elsewhere was.0 (λ e. apart (sym was.3 ∙ (ap old e ∙ still))) ∙ was.3)

    only : (b : ℕ) (z : Thing) → after b ≡ Some z → (a : ℕ) × (before a ≡ Some z) × IsTrue (keeps a) × (new a ≡ b)
    only b z at = elim (same-or b to) [
      | inl same ↦ (from, is ∙ (sym stood ∙ (sym m.here ∙ (ap after (sym same) ∙ at))), kept, d.here ∙ sym same)
      | inr other ↦ elim (same-or b from) [
        | inl gone ↦ absurd (none-some z (sym (m.gone (λ e. other (gone ∙ sym e))) ∙ (ap after (sym gone) ∙ at)))
        | inr apart ↦ elsewhere b z at other apart
      ]
    ]

pub carried-taken : (before middle after : Things) (g : Graph) (keeps now : ℕ → Bool) (to : ℕ → ℕ) (a : ℕ) (x : Thing)
    → Shows before g → Carried before middle keeps to → before a ≡ Some x → IsTrue (keeps a) → to a ≡ a
    → Updated middle after a None → now a ≡ false → ((b : ℕ) → (b ≡ a → ⊥) → now b ≡ keeps b) → Carried before after now to
carried-taken before middle after g keeps now to a x s c is kept still u gone others = record { carried = carried; only = only }
  where
    not_here : (b : ℕ) → IsTrue (now b) → b ≡ a → ⊥
    not_here b stays same = false≢true (sym gone ∙ (ap now (sym same) ∙ stays))

    carried : (b : ℕ) (z : Thing) → before b ≡ Some z → IsTrue (now b) → after (to b) ≡ Some z
    carried b z at stays =
        let other = not_here b stays in
        let too : keeps b ≡ true = sym (others b other) ∙ stays in
        u.elsewhere (to b) (λ e. other (carried-apart before middle g keeps to a b x z s c is kept at too (e ∙ sym still))) ∙ c.carried b z at too

    only : (b : ℕ) (z : Thing) → after b ≡ Some z → (d : ℕ) × (before d ≡ Some z) × IsTrue (now d) × (to d ≡ b)
    only b z at = elim (same-or b a) [
      | inl same ↦ absurd (none-some z (sym u.here ∙ (ap after (sym same) ∙ at)))
      | inr other ↦
          let was = c.only b z (sym (u.elsewhere b other) ∙ at) in
          (was.0, was.1, others was.0 (λ e. other (sym was.3 ∙ (ap to e ∙ still))) ∙ was.2, was.3)
    ]
