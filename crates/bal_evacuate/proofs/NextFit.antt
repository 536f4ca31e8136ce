-- Copies go to the open region of their age.
use Rattle.std.proofs.Common.{◌≡◌, ◌⊎◌, ◌+◌, ◌<◌, ◌≤◌, ℕ, inl, inr, Bool, true, false, List, [], ◌∷◌, ◌++◌, length, not, leb, Option, Some, None, refl, ap, sym, subst, ◌∙◌, arith}
use Rattle.std.proofs.lemmas.Bool.{cases_eq, cases_lt, false≢true, leb-false}
use Rattle.std.proofs.lemmas.List.{length-append, length-set}
use Rattle.std.proofs.lemmas.Option.{slice_get_within}
use Rattle.bal_layout.specs.Addresses.{offset_of, region_of}
use Rattle.bal_core.specs.declared.event.Decision.TheVariants as decision
use Rattle.bal_core.specs.declared.row.Told.{Told}
use Rattle.bal_core.specs.Steps.{told}
use Rattle.bal_core.specs.World.{At, size_of}
use Rattle.bal_core.proofs.Lemmas.{at-push-cases, copied-marked, same_Copied}
use Rattle.bal_region.specs.Changes.{with_object}
use Rattle.bal_region.specs.Land.{Land}
use Rattle.bal_dest.specs.Buffers.{Buffers, age_at, destination_at, fits_at, land_at, open_place, placed_in, wants_region, with_region}
use Rattle.bal_dest.specs.declared.buffers.Destination.{Destination}
use Rattle.bal_dest.proofs.Lemmas.{before-added, filled-other, filled-there, last-of-added, open-last, open-none}
use Rattle.bal_evacuate.specs.Course.{Course}
use Rattle.bal_evacuate.specs.Going.{IsUnderWay, decided}
use Rattle.bal_evacuate.specs.Plan.{IsNextFit, Plan, world_for}
use Rattle.bal_evacuate.proofs.UnderWay.{next-free, same-place}

-- An object is marked.

old-copy : (won : List Told) (k m j a : ℕ) → At (won ++ told k decision.Marked ∷ []) m (told j (decision.Copied a)) → At won m (told j (decision.Copied a))
old-copy won k m j a at = elim (at-push-cases won (told k decision.Marked) (told j (decision.Copied a)) m at) [
  | inl old ↦ old
  | inr new ↦ absurd (copied-marked a (ap (λ (t : Told). t.decision) new.1))
]

pub next-marked : (p : Plan) (c : Course) (k : ℕ) → IsNextFit p c → IsNextFit p (decided c k decision.Marked)
next-marked p c k next = record {
  onward = λ i j m n o l a b before less same one here two there.
      next.onward i j m n o l a b before less same (old-copy c.won k m o a one) here (old-copy c.won k n l b two) there;
  wanted = λ i j n l b before less same none two there first. next.wanted i j n l b before less same none (old-copy c.won k n l b two) there first;
}

-- A region is drawn.

-- where the age wants a region, the last one before it that was drawn for the age has no room
pub no-room-before : (b : Buffers) (age size q : ℕ) → wants_region b age size ≡ true → q < length b.regions → age_at b q ≡ age
    → ((r : ℕ) → q < r → r < length b.regions → age_at b r ≡ age → ⊥) → b.shape.words < (land_at b q).used + size
no-room-before b age size q wants less is none = by (open_place b age) refl wants
  where
    on : (x : Bool) → not x ≡ true → x ≡ false
    on true e = absurd (false≢true e)
    on false e = refl

    by : (o : Option ℕ) → open_place b age ≡ o → not (fits_at b size o) ≡ true → b.shape.words < (land_at b q).used + size
    by None e full = absurd (open-none b age q e less is)
    by (Some r) e full =
        let last = open-last b age r e in
        let after : q ≤ r = last.2 q less is in
        let same : r ≡ q = elim (cases_lt q r) [ inl before ↦ absurd (none r before last.0 last.1) | inr past ↦ omega (arith, after, past) ] in
        subst (λ i. b.shape.words < (land_at b i).used + size) same
        (leb-false ((land_at b r).used + size) b.shape.words (on (leb ((land_at b r).used + size) b.shape.words) full))

module _ (p : Plan) (c : Course) (u : IsUnderWay p c) (age : ℕ) (l : Land) (ls : List Land) (next : c.spares ≡ l ∷ ls) where
  abbrev drawn : Course
  drawn = record c { buffers = with_region c.buffers age l; spares = ls }

  abbrev d : Destination
  d = record { age = age; region = l }

  old-at : (i : ℕ) → i < length c.buffers.regions → destination_at drawn.buffers.regions i ≡ destination_at c.buffers.regions i
  old-at i less = before-added c.buffers age l i less

  -- no object was copied to the new one
  old-region : (j n o b : ℕ) → j < length drawn.buffers.regions → At c.won n (told o (decision.Copied b))
      → region_of p.shape b ≡ (land_at drawn.buffers j).number → j < length c.buffers.regions
  old-region j n o b less at there = elim (cases_lt j (length c.buffers.regions)) [
    | inl old ↦ old
    | inr past ↦
        let more : length drawn.buffers.regions ≡ length c.buffers.regions + 1 = length-append c.buffers.regions (d ∷ []) in
        absurd (next-free p c u l ls next n o b at
        (there ∙ ap (λ (x : Destination). x.region.number) (last-of-added c.buffers age l j (omega (arith, less, more, past)))))
  ]

  pub next-drawn : IsNextFit p drawn
  next-drawn = record {
    onward = λ i j m n k o a b before less same one here two there.
        let j_old : j < length c.buffers.regions = old-region j n o b less two there in
        let i_old : i < length c.buffers.regions = omega (arith, before, j_old) in
        u.next.onward i j m n k o a b before j_old (sym (ap (λ (x : Destination). x.age) (old-at i i_old)) ∙ same ∙ ap (λ (x : Destination). x.age) (old-at j j_old))
        one (here ∙ ap (λ (x : Destination). x.region.number) (old-at i i_old)) two (there ∙ ap (λ (x : Destination). x.region.number) (old-at j j_old));
    wanted = λ i j n o b before less same none two there first.
        let j_old : j < length c.buffers.regions = old-region j n o b less two there in
        let i_old : i < length c.buffers.regions = omega (arith, before, j_old) in
        subst (λ (x : Destination). p.shape.words < x.region.used + size_of (world_for p) o) (sym (old-at i i_old))
        (u.next.wanted i j n o b before j_old
        (sym (ap (λ (x : Destination). x.age) (old-at i i_old)) ∙ same ∙ ap (λ (x : Destination). x.age) (old-at j j_old))
        (λ q after until is. none q after until
        (ap (λ (x : Destination). x.age) (old-at q (omega (arith, until, j_old))) ∙ is ∙ sym (ap (λ (x : Destination). x.age) (old-at j j_old))))
        two (there ∙ ap (λ (x : Destination). x.region.number) (old-at j j_old)) first);
  }

-- An object is copied to the open region of its age.

-- a region that has no copy yet was drawn for an object of this size
abbrev pub IsFor : Plan → Course → ℕ → ℕ → ℕ → Type 0
IsFor p c age size place = (q : ℕ) → q < place → age_at c.buffers q ≡ age
    → ((r : ℕ) → q < r → r < place → age_at c.buffers r ≡ age → ⊥) → p.shape.words < (land_at c.buffers q).used + size

module _ (p : Plan) (c f : Course) (u : IsUnderWay p c) (k age address place : ℕ) (words : List ℕ)
    (held : place < length c.buffers.regions) (opened : open_place c.buffers age ≡ Some place)
    (region : region_of p.shape address ≡ (land_at c.buffers place).number) (offset : offset_of p.shape address ≡ (land_at c.buffers place).used)
    (size : size_of (world_for p) k ≡ length words)
    (fresh : (1 ≤ (land_at c.buffers place).used) ⊎ IsFor p c age (length words) place)
    (won : f.won ≡ c.won ++ told k (decision.Copied address) ∷ []) (regions : f.buffers.regions ≡ placed_in c.buffers.regions place words) where
  there : destination_at f.buffers.regions place ≡ record (destination_at c.buffers.regions place) { region = with_object (land_at c.buffers place) words }
  there = ap (λ l. destination_at l place) regions ∙ filled-there c.buffers place words held

  other : (i : ℕ) → (i ≡ place → ⊥) → destination_at f.buffers.regions i ≡ destination_at c.buffers.regions i
  other i differs = ap (λ l. destination_at l i) regions ∙ filled-other c.buffers place words i differs

  age-same : (i : ℕ) → age_at f.buffers i ≡ age_at c.buffers i
  age-same i = elim (cases_eq i place) [
    | inl same ↦ ap (age_at f.buffers) same ∙ ap (λ (x : Destination). x.age) there ∙ ap (age_at c.buffers) (sym same)
    | inr differs ↦ ap (λ (x : Destination). x.age) (other i differs)
  ]

  number-same : (i : ℕ) → (land_at f.buffers i).number ≡ (land_at c.buffers i).number
  number-same i = elim (cases_eq i place) [
    | inl same ↦ ap (λ j. (land_at f.buffers j).number) same ∙ ap (λ (x : Destination). x.region.number) there ∙ ap (λ j. (land_at c.buffers j).number) (sym same)
    | inr differs ↦ ap (λ (x : Destination). x.region.number) (other i differs)
  ]

  used-more : (i : ℕ) → (land_at c.buffers i).used ≤ (land_at f.buffers i).used
  used-more i = elim (cases_eq i place) [
    | inl same ↦
        let now : (land_at f.buffers place).used ≡ (land_at c.buffers place).used + length words = ap (λ (x : Destination). x.region.used) there in
        subst (λ j. (land_at c.buffers j).used ≤ (land_at f.buffers j).used) (sym same) (omega (arith, now))
    | inr differs ↦ let now : (land_at f.buffers i).used ≡ (land_at c.buffers i).used = ap (λ (x : Destination). x.region.used) (other i differs) in omega (arith, now)
  ]

  long : length f.buffers.regions ≡ length c.buffers.regions
  long =
      ap (λ (l : List Destination). length l) regions
      ∙ length-set c.buffers.regions place (record (destination_at c.buffers.regions place) { region = with_object (land_at c.buffers place) words })

  -- the region is the last one of its age
  none-after : (j : ℕ) → place < j → j < length c.buffers.regions → age_at c.buffers j ≡ age_at c.buffers place → ⊥
  none-after j after less same =
      let last = open-last c.buffers age place opened in
      let most : j ≤ place = last.2 j less (same ∙ last.1) in
      omega (arith, after, most)

  -- a copy was there before, or it is the new one
  old-or-new : (m j a : ℕ) → At f.won m (told j (decision.Copied a)) → At c.won m (told j (decision.Copied a)) ⊎ ((m ≡ length c.won) × (j ≡ k) × (a ≡ address))
  old-or-new m j a at =
      elim (at-push-cases c.won (told k (decision.Copied address)) (told j (decision.Copied a)) m (subst (λ l. At l m (told j (decision.Copied a))) won at)) [
        | inl old ↦ inl old
        | inr new ↦ inr (new.0, ap (λ (t : Told). t.object) new.1, same_Copied a address (ap (λ (t : Told). t.decision) new.1))
      ]

  -- the new one lies in its region
  place-is : (j a : ℕ) → j < length c.buffers.regions → a ≡ address → region_of p.shape a ≡ (land_at f.buffers j).number → j ≡ place
  place-is j a less same here = same-place p c u j place less held (sym (number-same j) ∙ sym here ∙ ap (region_of p.shape) same ∙ region)

  pub next-copied : IsNextFit p f
  next-copied = record {
    onward = λ i j m n o l a b before less same one here two on.
        let j_less : j < length c.buffers.regions = omega (arith, less, long) in
        let i_less : i < length c.buffers.regions = omega (arith, before, j_less) in
        let ages : age_at c.buffers i ≡ age_at c.buffers j = sym (age-same i) ∙ same ∙ age-same j in
        elim (old-or-new m o a one) [
          | inl first ↦ elim (old-or-new n l b two) [
            | inl second ↦ u.next.onward i j m n o l a b before j_less ages first (here ∙ number-same i) second (on ∙ number-same j)
            | inr second ↦
                let within : m < length c.won = slice_get_within c.won m (told o (decision.Copied a)) first in
                let last : n ≡ length c.won = second.0 in
                omega (arith, within, last)
          ]
          | inr first ↦
              let at : i ≡ place = place-is i a i_less first.2 here in
              absurd (none-after j (subst (λ q. q < j) at before) j_less (sym (subst (λ q. age_at c.buffers q ≡ age_at c.buffers j) at ages)))
        ];
    wanted = λ i j n l b before less same none two on first.
        let j_less : j < length c.buffers.regions = omega (arith, less, long) in
        let ages : age_at c.buffers i ≡ age_at c.buffers j = sym (age-same i) ∙ same ∙ age-same j in
        let no_more : (q : ℕ) → i < q → q < j → age_at c.buffers q ≡ age_at c.buffers j → ⊥
        = λ q after until is. none q after until (age-same q ∙ is ∙ sym (age-same j)) in
        let full : p.shape.words < (land_at c.buffers i).used + size_of (world_for p) l = elim (old-or-new n l b two) [
          | inl old ↦ u.next.wanted i j n l b before j_less ages no_more old (on ∙ number-same j) first
          | inr new ↦
              let at : j ≡ place = place-is j b j_less new.2 on in
              let empty : (land_at c.buffers place).used ≡ 0 = sym offset ∙ ap (offset_of p.shape) (sym new.2) ∙ first in
              let is : age_at c.buffers place ≡ age = (open-last c.buffers age place opened).1 in
              elim fresh [
                | inl some ↦ absurd (omega (arith, empty, some))
                | inr for ↦
                    subst (λ s. p.shape.words < (land_at c.buffers i).used + s) (sym size ∙ ap (size_of (world_for p)) (sym new.1))
                    (for i (subst (λ q. i < q) at before) (ages ∙ ap (age_at c.buffers) at ∙ is)
                    (λ r after until here. no_more r after (subst (λ q. r < q) (sym at) until) (here ∙ sym is ∙ ap (age_at c.buffers) (sym at))))
              ]
        ] in
        let more : (land_at c.buffers i).used ≤ (land_at f.buffers i).used = used-more i in
        omega (arith, full, more);
  }
