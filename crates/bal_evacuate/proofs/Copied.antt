-- An object is copied, or marked: what holds afterwards.
use Rattle.std.proofs.Common.{◌≡◌, ◌⊎◌, ◌+◌, ◌<◌, ◌≤◌, ℕ, inl, inr, true, IsTrue, List, [], ◌∷◌, ◌++◌, length, drop, get_or, set, Option, Some, None, refl, ap, sym, subst, ◌∙◌, arith}
use Rattle.std.specs.Prelude.{is_none, is_some, if◌then◌else◌}
use Rattle.std.specs.List.{list_any}
use Rattle.std.proofs.lemmas.Bool.{and_from, cases_eq, eq-eqb, false≢true, le-leb}
use Rattle.std.proofs.lemmas.List.{length-append, length-set}
use Rattle.std.proofs.lemmas.List.Sums.{sum_by-set, sum_by_push}
use Rattle.std.proofs.lemmas.Nat.{div-mul-add, mod-mul-add}
use Rattle.std.proofs.lemmas.Option.{same_Some}
use Rattle.bal_layout.specs.Addresses.{address_in, offset_of, region_of}
use Rattle.bal_layout.specs.declared.name.Abort.{Abort}
use Rattle.bal_core.specs.declared.event.Decision.{Decision}
use Rattle.bal_core.specs.declared.event.Decision.TheVariants as decision
use Rattle.bal_core.specs.declared.row.Told.{Told}
use Rattle.bal_core.specs.Core.{IsCore}
use Rattle.bal_core.specs.Finished.{one_if_copied}
use Rattle.bal_core.specs.Steps.{is_place, next_age, told, used}
use Rattle.bal_core.specs.World.{World, age_of, size_of}
use Rattle.bal_core.proofs.Lemmas.{at-kept, at-last, same_Copied}
use Rattle.bal_region.specs.Changes.{with_object}
use Rattle.bal_region.specs.Land.{Land}
use Rattle.bal_dest.specs.Buffers.{destination_at, land_at, open_place, placed_in}
use Rattle.bal_dest.specs.declared.buffers.Destination.{Destination}
use Rattle.bal_dest.proofs.Lemmas.{filled-other, filled-there}
use Rattle.bal_evacuate.specs.Course.{Course, alone, decision_of, drawn_by, drawn_from, is_dry, is_wish, state_of}
use Rattle.bal_evacuate.specs.Going.{Goes, IsAsked, IsUnderWay, copies_in, decided, open_words}
use Rattle.bal_evacuate.specs.Plan.{IsStuck, Plan, land_with_copies, pooled, with_decided, words_in, world_for}
use Rattle.bal_evacuate.proofs.Drawn.{any-from, drawn-set, drawn_as}
use Rattle.bal_evacuate.proofs.Lands.{copies-push, put-elsewhere, put-here, size-is}
use Rattle.bal_evacuate.proofs.NextFit.{IsFor, next-copied, next-marked}
use Rattle.bal_evacuate.proofs.Split.{split-copied, split-marked}
use Rattle.bal_evacuate.proofs.Steps.{Step, copy-step, mark-step}
use Rattle.bal_evacuate.proofs.UnderWay.{drawn-here, same-place, used-at}

abbrev pub one_if_open : Option Decision → ℕ
one_if_open o = if is_none o then 1 else 0

-- the object was copied behind what lies in the region at this place
abbrev pub copied_at : Course → ℕ → ℕ → ℕ → List ℕ → Course
copied_at c k address place words = record (decided c k (decision.Copied address)) {
  copied = c.copied + 1;
  buffers = record c.buffers { regions = placed_in c.buffers.regions place words; reserved = None };
}

-- an open word is decided
pub fewer-open : (words : List (Option Decision)) (k : ℕ) (d : Decision) → k < length words → get_or words k None ≡ None
    → open_words (set words k (Some d)) + 1 ≡ open_words words
fewer-open words k d within unset =
    let sum : open_words (set words k (Some d)) + one_if_open (get_or words k None) ≡ open_words words + 0 = sum_by-set one_if_open words k (Some d) None within in
    let one : one_if_open (get_or words k None) ≡ 1 = ap one_if_open unset in
    omega (arith, sum, one)

module _ (p : Plan) (c : Course) (u : IsUnderWay p c) (k : ℕ) (within : k < length c.words) (unset : decision_of c k ≡ None) (asked : IsAsked p c k) where
  abbrev w : World
  w = world_for p

  fewer : (d : Decision) → open_words (set c.words k (Some d)) + 1 ≡ open_words c.words
  fewer d = fewer-open c.words k d within unset

  -- It is marked.

  module _ (cause : Abort) (is : c.cause ≡ Some cause) where
    abbrev marked : Course
    marked = decided c k decision.Marked

    mark-here : Step (state_of w c) (state_of w marked)
    mark-here =
        subst (λ o. Step (alone w c.words c.won (drawn_by c) o) (alone w marked.words marked.won (drawn_by c) o)) (sym is)
        (mark-step w c.words c.won (drawn_by c) k within asked unset cause
        (subst (λ o. IsCore (alone w c.words c.won (drawn_by c) o)) is u.core))

    pub mark-under : IsUnderWay p marked
    mark-under = record {
      may = u.may;
      few = u.few;
      shape = u.shape;
      core = mark-here.core;
      lands = λ i less. u.lands i less ∙ sym (copies-push p c.won (told k decision.Marked) (pooled p i));
      spares = u.spares;
      idle = u.idle;
      left = u.left;
      room = (let one = fewer decision.Marked in let room = u.room in omega (arith, one, room));
      many = (let one = fewer decision.Marked in
          let many = u.many in
          let long : length (c.won ++ told k decision.Marked ∷ []) ≡ length c.won + 1 = length-append c.won (told k decision.Marked ∷ []) in
          omega (arith, one, many, long));
      copied = (let more : copies_in (c.won ++ told k decision.Marked ∷ []) ≡ copies_in c.won + 0
          = sum_by_push (λ (t : Told). one_if_copied t.decision) c.won (told k decision.Marked) in
          let copied = u.copied in
          omega (arith, more, copied));
      most = u.most;
      wished = u.wished;
      split = split-marked c.won c.copied k c.cause cause is u.split;
      next = next-marked p c k u.next;
    }

    pub mark-goes : IsTrue (is_some c.cause) → ((i : ℕ) → i < length c.buffers.regions → 1 ≤ (land_at c.buffers i).used)
        → (IsTrue (is_dry c.cause) → IsStuck p marked) → Goes p c marked
    mark-goes any filled stuck = record {
      under = mark-under;
      events = mark-here.comes;
      grows = λ i t at. at-kept c.won (told k decision.Marked ∷ []) t i at;
      settled = record { filled = filled; marked = λ some. (length c.won, k, at-last c.won (told k decision.Marked)); stuck = stuck };
    }

  -- It is copied.

  module _ (age address place : ℕ) (words : List ℕ) (calm : c.cause ≡ None)
      (age_is : age ≡ next_age (age_of w k)) (words_are : words ≡ words_in p.graph k) (some : 2 ≤ length words)
      (held : place < length c.buffers.regions) (place_age : (destination_at c.buffers.regions place).age ≡ age)
      (fits : (land_at c.buffers place).used + length words ≤ c.buffers.shape.words)
      (address_is : address ≡ address_in c.buffers.shape (land_at c.buffers place).number (land_at c.buffers place).used) where
    abbrev t : Told
    t = told k (decision.Copied address)

    abbrev copied : Course
    copied = copied_at c k address place words

    size : size_of w k ≡ length words
    size = size-is p k ∙ ap (λ (l : List ℕ). length l) (sym words_are)

    room : (land_at c.buffers place).used + length words ≤ p.shape.words
    room = subst (λ s. (land_at c.buffers place).used + length words ≤ s.words) u.shape fits

    inside : (land_at c.buffers place).used < p.shape.words
    inside = omega (arith, room, some)

    here : address ≡ address_in p.shape (land_at c.buffers place).number (land_at c.buffers place).used
    here = address_is ∙ ap (λ s. address_in s (land_at c.buffers place).number (land_at c.buffers place).used) u.shape

    region : region_of p.shape address ≡ (land_at c.buffers place).number
    region = ap (region_of p.shape) here ∙ div-mul-add (land_at c.buffers place).number p.shape.words (land_at c.buffers place).used inside

    offset : offset_of p.shape address ≡ (land_at c.buffers place).used
    offset = ap (offset_of p.shape) here ∙ mod-mul-add (land_at c.buffers place).number p.shape.words (land_at c.buffers place).used inside

    has-place : list_any (is_place w c.won k address) (drawn_by c) ≡ true
    has-place =
        let begins : offset_of p.shape address ≡ used w (land_at c.buffers place).number c.won = offset ∙ used-at p c u place held in
        let ends : offset_of p.shape address + size_of w k ≤ p.shape.words = omega (arith, offset, size, room) in
        any-from (is_place w c.won k address) (drawn_by c) place (drawn_as place (destination_at c.buffers.regions place)) (drawn-here p c u place held)
        (and_from _ _ (and_from _ _ (and_from _ _ (eq-eqb _ _ (place_age ∙ age_is)) (eq-eqb _ _ region)) (eq-eqb _ _ begins)) (le-leb _ _ ends))

    drawn-kept : drawn_from 0 (placed_in c.buffers.regions place words) ≡ drawn_by c
    drawn-kept =
        drawn-set 0 c.buffers.regions place
        (record (destination_at c.buffers.regions place) { region = with_object (destination_at c.buffers.regions place).region words }) refl refl

    copy-here : Step (state_of w c) (state_of w copied)
    copy-here =
        subst (λ ds. Step (state_of w c) (alone w copied.words copied.won ds c.cause)) (sym drawn-kept)
        (subst (λ o. Step (alone w c.words c.won (drawn_by c) o) (alone w copied.words copied.won (drawn_by c) o)) (sym calm)
        (copy-step w c.words c.won (drawn_by c) k within asked unset address has-place
        (subst (λ o. IsCore (alone w c.words c.won (drawn_by c) o)) calm u.core)))

    long : length (placed_in c.buffers.regions place words) ≡ length c.buffers.regions
    long =
        length-set c.buffers.regions place
        (record (destination_at c.buffers.regions place) { region = with_object (destination_at c.buffers.regions place).region words })

    land-there : land_at copied.buffers place ≡ with_object (land_at c.buffers place) words
    land-there = ap (λ (d : Destination). d.region) (filled-there c.buffers place words held)

    land-other : (i : ℕ) → (i ≡ place → ⊥) → land_at copied.buffers i ≡ land_at c.buffers i
    land-other i other = ap (λ (d : Destination). d.region) (filled-other c.buffers place words i other)

    lands-there : land_at copied.buffers place ≡ land_with_copies p copied.won (pooled p place)
    lands-there =
        land-there ∙ ap (with_object (land_at c.buffers place)) words_are ∙ sym (put-here p k address (land_at c.buffers place) region)
        ∙ ap (with_decided p k (decision.Copied address)) (u.lands place held) ∙ sym (copies-push p c.won t (pooled p place))

    lands-other : (i : ℕ) → i < length c.buffers.regions → (i ≡ place → ⊥) → land_at copied.buffers i ≡ land_with_copies p copied.won (pooled p i)
    lands-other i less other =
        land-other i other
        ∙ sym (put-elsewhere p k (decision.Copied address) (land_at c.buffers i)
        (λ a same there. other (same-place p c u i place less held
        (sym there ∙ ap (region_of p.shape) (sym (same_Copied address a same)) ∙ region))))
        ∙ ap (with_decided p k (decision.Copied address)) (u.lands i less) ∙ sym (copies-push p c.won t (pooled p i))

    old : (i : ℕ) → i < length (placed_in c.buffers.regions place words) → i < length c.buffers.regions
    old i less = omega (arith, less, long)

    pub copy-under : (p.limit ≡ Some c.copied → ⊥) → (1 ≤ (land_at c.buffers place).used) ⊎ IsFor p c age (length words) place
        → open_place c.buffers age ≡ Some place → IsUnderWay p copied
    copy-under below fresh opened = record {
      may = u.may;
      few = u.few;
      shape = u.shape;
      core = copy-here.core;
      lands = λ i less. elim (cases_eq i place) [
        | inl same ↦ subst (λ j. land_at copied.buffers j ≡ land_with_copies p copied.won (pooled p j)) (sym same) lands-there
        | inr other ↦ lands-other i (old i less) other
      ];
      spares = u.spares ∙ ap (λ n. drop n p.pool) (sym long);
      idle = refl;
      left = u.left;
      room = (let one = fewer (decision.Copied address) in let room = u.room in omega (arith, one, room));
      many = (let one = fewer (decision.Copied address) in
          let many = u.many in
          let more : length (c.won ++ t ∷ []) ≡ length c.won + 1 = length-append c.won (t ∷ []) in
          omega (arith, one, many, more));
      copied = (let more : copies_in (c.won ++ t ∷ []) ≡ copies_in c.won + 1 = sum_by_push (λ (x : Told). one_if_copied x.decision) c.won t in
          let copied = u.copied in
          omega (arith, more, copied));
      most = λ most limit.
          let before : c.copied ≤ most = u.most most limit in
          let other : most ≡ c.copied → ⊥ = λ same. below (limit ∙ ap Some same) in
          omega (arith, before, other);
      wished = λ wish. absurd (false≢true (ap is_wish (sym calm) ∙ wish));
      split = split-copied c.won c.copied k address c.cause calm u.split;
      next = next-copied p c copied u k age address place words held opened region offset size fresh refl refl;
    }

    pub copy-goes : (p.limit ≡ Some c.copied → ⊥)
        → ((i : ℕ) → i < length c.buffers.regions → (1 ≤ (land_at c.buffers i).used) ⊎ (open_place c.buffers age ≡ Some i) × IsFor p c age (length words) i)
        → open_place c.buffers age ≡ Some place → Goes p c copied
    copy-goes below filled opened = record {
      under = copy-under below (elim (filled place held) [ inl some ↦ inl some | inr for ↦ inr for.1 ]) opened;
      events = copy-here.comes;
      grows = λ i x at. at-kept c.won (t ∷ []) x i at;
      settled = record {
        filled = λ i less. elim (cases_eq i place) [
          | inl same ↦
              let there : (land_at copied.buffers i).used ≡ (land_at c.buffers place).used + length words
              = ap (λ (l : Land). l.used) (ap (land_at copied.buffers) same ∙ land-there) in
              omega (arith, there, some)
          | inr other ↦ elim (filled i (old i less)) [
            | inl full ↦ subst (λ (l : Land). 1 ≤ l.used) (sym (land-other i other)) full
            | inr last ↦ absurd (other (same_Some i place (sym last.0 ∙ opened)))
          ]
        ];
        marked = λ any. absurd (false≢true (ap is_some (sym calm) ∙ any));
        stuck = λ dry. absurd (false≢true (ap is_dry (sym calm) ∙ dry));
      };
    }
