-- What holds an object from outside of the chosen regions, by words and by names.
use Rattle.std.proofs.Common.{◌≡◌, ℕ, inl, inr, Bool, false, not, IsTrue, List, map, Some, ap, sym, subst, ◌∙◌}
use Rattle.std.specs.Prelude.{slice_get}
use Rattle.std.specs.List.{list_any}
use Rattle.std.proofs.lemmas.Bool.{not-true, or_cases, or_left, or_right}
use Rattle.std.proofs.lemmas.Option.{same_Some, slice_get_within}
use Rattle.bal_core.specs.World.{At}
use Rattle.bal_gather.specs.Gathered.{IsHeld, LeadsFromOutside}
use Rattle.bal_gather.specs.Lent.{Lent, is_chosen}
use Rattle.bal_kept.specs.Collected.{names_chosen}
use Rattle.bal_kept.proofs.Leads.{named-word, targets-are, word-named}
use Rattle.bal_kept.proofs.Lists.{at-contains, contains-at, some-among}
use Rattle.bal_kept.proofs.Named.{IsGiven, chosen-named, present, thing-named}
use Rattle.bal_layout.specs.Names.{is_among}
use Rattle.bal_layout.specs.References.{word_of}
use Rattle.bal_layout.specs.declared.name.Name.{Name}
use Rattle.bal_meet.proofs.Lemmas.{roots-named}
use Rattle.bal_model.specs.Entries.{Spot}
use Rattle.bal_model.specs.Kept.{kept_ground, outside_of}
use Rattle.bal_model.specs.Walk.{Ground, names_in, root_names, targets}
use Rattle.bal_model.proofs.Lemmas.{from-filter, in-filter, passes-some}
use Rattle.bal_rules.specs.Board.{Board, names_placed}
use Rattle.bal_table.specs.Table.{slot_place, things_of, word_at}
use Rattle.bal_table.proofs.Lemmas.{slot-lies_at, thing-slot}
use Rattle.bal_words.specs.Shown.{name_behind}
use Rattle.bal_words.specs.Things.{Thing}

-- where walks by name go that keep objects of the chosen regions
abbrev pub ground : Board → Lent → Ground
ground b l = kept_ground b.plain (names_placed b.present) (names_chosen b l.regions)

module _ {b : Board} {spot : ℕ → Spot} {l : Lent} {roots held places : List ℕ} (g : IsGiven b spot l roots held places) where
  -- the names that roots hold are those behind their words
  roots-are : names_in (map (name_behind (things_of l.table)) roots) ≡ root_names b.plain
  roots-are = ap names_in g.from.decodes.held.each ∙ roots-named b.plain

  -- the present names outside of the chosen regions
  abbrev outside : List Name
  outside = outside_of (names_chosen b l.regions) (names_placed b.present)

  is-outside : (a : ℕ) (x : Thing) → things_of l.table a ≡ Some x → is_chosen l a ≡ false → IsTrue (is_among x.name outside)
  is-outside a x is apart =
      in-filter (λ n. not (is_among n (names_chosen b l.regions))) (names_placed b.present) x.name (ap not (chosen-named g a x is ∙ apart)) (present g a x is)

  module _ (a : ℕ) (x : Thing) (is : things_of l.table a ≡ Some x) where
    -- some name of those outside refers to the object
    abbrev refers : Name → Bool
    refers n = is_among x.name (targets b.plain n)

    from-outside : (place : ℕ) → LeadsFromOutside l place a → IsTrue (list_any refers outside)
    from-outside place leads =
        let s = slot-lies_at l.table leads.holder leads.number place g.from.table leads.slot in
        let among = word-named g a x is s.thing.refs leads.number (s.read ∙ ap Some leads.leads) in
        passes-some refers outside s.thing.name (is-outside leads.holder s.thing s.is leads.outside)
        (subst (λ (ns : List Name). IsTrue (is_among x.name ns)) (sym (targets-are g leads.holder s.thing s.is)) among)

    pub held-begins : IsHeld l roots a → IsTrue ((ground b l).begins x.name)
    held-begins (inl root) =
        let at = contains-at roots (word_of a) root in
        or_left (is_among x.name (root_names b.plain)) (list_any refers outside)
        (subst (λ (ns : List Name). IsTrue (is_among x.name ns)) roots-are (word-named g a x is roots at.0 at.1))
    held-begins (inr other) = or_right (is_among x.name (root_names b.plain)) (list_any refers outside) (from-outside other.0 other.1)

    -- a word of an object outside leads there
    pub word-leads : (holder i : ℕ) (y : Thing) → things_of l.table holder ≡ Some y → is_chosen l holder ≡ false → At y.refs i (word_of a)
        → LeadsFromOutside l (slot_place l.table holder i) a
    word-leads holder i y there apart at =
        let place = slot_place l.table holder i in
        let slot = thing-slot l.table holder i y g.from.table there (slice_get_within y.refs i (word_of a) at) in
        let s = slot-lies_at l.table holder i place g.from.table slot in
        let same : y ≡ s.thing = same_Some y s.thing (sym there ∙ s.is) in
        let read : slice_get s.thing.refs i ≡ Some (word_of a) = ap (λ (z : Thing). slice_get z.refs i) (sym same) ∙ at in
        record { holder = holder; number = i; slot = slot; leads = same_Some (word_at l.table place) (word_of a) (sym s.read ∙ read); outside = apart }

    -- and so does one of each object outside that refers to it by name
    name-leads : (n : Name) → IsTrue (is_among n outside) → IsTrue (refers n) → (place : ℕ) × LeadsFromOutside l place a
    name-leads n among refer =
        let parts = from-filter (λ m. not (is_among m (names_chosen b l.regions))) (names_placed b.present) n among in
        let holder = thing-named g n parts.1 in
        let y : Thing = holder.1.0 in
        let there : things_of l.table holder.0 ≡ Some y = holder.1.1.0 in
        let named : y.name ≡ n = holder.1.1.1 in
        let apart : is_among y.name (names_chosen b l.regions) ≡ false
        = ap (λ m. is_among m (names_chosen b l.regions)) named ∙ not-true (is_among n (names_chosen b l.regions)) parts.0 in
        let word = named-word g a x is y.refs
        (subst (λ (ns : List Name). IsTrue (is_among x.name ns)) (ap (targets b.plain) (sym named) ∙ targets-are g holder.0 y there) refer) in
        (slot_place l.table holder.0 word.0, word-leads holder.0 word.0 y there (sym (chosen-named g holder.0 y there) ∙ apart) word.1)

    pub begins-held : IsTrue ((ground b l).begins x.name) → IsHeld l roots a
    begins-held begins = elim (or_cases (is_among x.name (root_names b.plain)) (list_any refers outside) begins) [
      | inl root ↦
          let at = named-word g a x is roots (subst (λ (ns : List Name). IsTrue (is_among x.name ns)) (sym roots-are) root) in
          inl (at-contains roots at.0 (word_of a) at.1)
      | inr other ↦ let n = some-among refers outside other in inr (name-leads n.0 n.1.0 n.1.1)
    ]
