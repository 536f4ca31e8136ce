-- What is known of an object that is about to be decided, and what holds once it is.
use Rattle.std.proofs.Common.{◌≡◌, ◌⊎◌, ◌+◌, ◌/◌, ◌^◌, ◌<◌, ◌≤◌, ◌==◌, ℕ, inl, inr, Bool, true, false, IsTrue, List, [], ◌∷◌, ◌++◌, length, get_or, set, Option, Some, None, refl, ap, sym, subst, ◌∙◌, arith}
use Rattle.std.specs.Prelude.{is_none, is_some, IsSome, nat_lt, if◌then◌else◌}
use Rattle.std.proofs.lemmas.Bool.{eqb-true, false≢true, ltb-true, or_cases}
use Rattle.std.proofs.lemmas.List.{get_or-set_same, length-map}
use Rattle.std.proofs.lemmas.List.Sums.{sum_by-cons}
use Rattle.std.proofs.lemmas.Option.{get_or_from_slice_get}
use Rattle.bal_layout.specs.Header.{first_word, header_of}
use Rattle.bal_layout.specs.Shape.{Shape, largest_of}
use Rattle.bal_layout.specs.declared.name.Abort.{Abort}
use Rattle.bal_layout.proofs.Lemmas.{header-of_words}
use Rattle.bal_words.specs.Pieces.{header_in}
use Rattle.bal_core.specs.declared.event.Decision.{Decision}
use Rattle.bal_core.specs.declared.event.Decision.TheVariants as decision
use Rattle.bal_core.specs.declared.row.Told.{Told}
use Rattle.bal_core.specs.Finished.{one_if_copied}
use Rattle.bal_core.specs.Start.{IsObject}
use Rattle.bal_core.specs.Steps.{holds, is_reached, leads_to, next_age, told}
use Rattle.bal_core.specs.World.{At, Graph, World, age_of, size_of, slots_of}
use Rattle.bal_core.proofs.Lemmas.{any-at, at-kept, at-last}
use Rattle.bal_region.specs.Land as land
use Rattle.bal_dest.specs.Buffers.{land_at, open_place, wants_region}
use Rattle.bal_evacuate.specs.Course.{Course, decision_of, is_dry, state_of}
use Rattle.bal_evacuate.specs.Going.{Copies, Goes, HasDecided, IsAsked, IsGoing, IsSettled, IsUnderWay, copied_to, copies_in, decided, open_words, tried}
use Rattle.bal_evacuate.specs.Plan.{IsStuck, Plan, words_in, world_for}
use Rattle.bal_evacuate.proofs.Copied.{copied_at, copy-goes, fewer-open, mark-goes}
use Rattle.bal_evacuate.proofs.Lands.{size-is}
use Rattle.bal_evacuate.proofs.NextFit.{IsFor}
use Rattle.bal_evacuate.proofs.Steps.{comes-none, comes-then}
use Rattle.bal_evacuate.proofs.Tried.{Tried, tries}

pub open-is : {X : Type 0} (o : Option X) → is_some o ≡ false → o ≡ None
open-is None is = refl
open-is (Some x) is = absurd (false≢true (sym is))

pub calm-is : {X : Type 0} (o : Option X) → is_none o ≡ true → o ≡ None
calm-is None is = refl
calm-is (Some x) is = absurd (false≢true is)

pub raised-is : {X : Type 0} (o : Option X) → is_none o ≡ false → (x : X) × (o ≡ Some x)
raised-is None is = absurd (false≢true (sym is))
raised-is (Some x) is = (x, refl)

holds-is : (k : ℕ) (o : Option ℕ) → holds k o ≡ true → o ≡ Some k
holds-is k None is = absurd (false≢true is)
holds-is k (Some j) is = ap Some (eqb-true j k is)

-- words of an object that may be copied are words of an object in its region
pub object-is : (s : Shape) (words : List ℕ) → IsObject s words → land.IsObject s.words words
object-is s words is =
    let header : header_in words ≡ Some is.header
    = ap (λ a. header_of a (get_or words 1 0)) (sym is.is.first_is) ∙ ap (header_of (first_word is.header)) (sym is.is.second_is)
    ∙ header-of_words is.header is.is.limits in
    record { header = subst IsSome (sym header) refl; size = ap (land.size_by s.words) header ∙ is.size }

copies-few : (won : List Told) → copies_in won ≤ length won
copies-few [] = omega arith
copies-few (t ∷ won) =
    let sum : copies_in (t ∷ won) ≡ one_if_copied t.decision + copies_in won = sum_by-cons (λ (x : Told). one_if_copied x.decision) t won in
    let one : one_if_copied t.decision ≤ 1 = by t.decision in
    let rest : copies_in won ≤ length won = copies-few won in
    omega (arith, sum, one, rest)
  where
    by : (d : Decision) → one_if_copied d ≤ 1
    by (decision.Copied a) = omega arith
    by decision.Marked = omega arith

module _ (p : Plan) (c : Course) (u : IsUnderWay p c) (k : ℕ) where
  abbrev w : World
  w = world_for p

  sizes : length w.sizes ≡ length p.graph.ages
  sizes = length-map p.graph.words length ∙ u.may.start.graph.words

  -- what may be asked for is an object
  pub asked-within : IsAsked p c k → k < length p.graph.ages
  asked-within asked = elim (or_cases _ _ asked) [
    | inl root ↦
        let at = any-at (λ r. r == k) w.roots root in
        let here : k < length w.sizes = u.core.world.roots k (at.0, subst (At w.roots at.0) (eqb-true at.1 k at.3) at.2) in
        omega (arith, here, sizes)
    | inr known ↦
        let at = any-at (leads_to w k) c.won known in
        let t : Told = at.1 in
        let slot = any-at (holds k) (slots_of w t.object) at.3 in
        let here : k < length w.sizes = u.core.world.slots t.object k (slot.0, subst (At (slots_of w t.object) slot.0) (holds-is k slot.1 slot.3) slot.2) in
        omega (arith, here, sizes)
  ]

  pub words-within : k < length p.graph.ages → k < length c.words
  words-within less = let words : length c.words ≡ length w.sizes = u.core.words in omega (arith, less, words, sizes)

  pub object-at : (words : List ℕ) → At p.graph.words k words → IsObject p.shape words
  object-at words at = u.may.start.graph.objects k words at

  pub object-few : (words : List ℕ) → At p.graph.words k words → length words < 2 ^ 32
  object-few words at =
      let object : IsObject p.shape words = object-at words at in
      let largest : length words ≤ p.shape.words / 8 = object.largest in
      let most : p.shape.words ≤ 65536 = u.core.world.shape.most_words in
      omega (arith, largest, most)

  pub object-largest : (words : List ℕ) → At p.graph.words k words → length words ≤ largest_of c.buffers.shape
  object-largest words at = subst (λ s. length words ≤ largest_of s) (sym u.shape) (object-at words at).largest

  pub object-region : (words : List ℕ) → At p.graph.words k words → land.IsObject c.buffers.shape.words words
  object-region words at = subst (λ (s : Shape). land.IsObject s.words words) (sym u.shape) (object-is p.shape words (object-at words at))

  module _ (less : k < length p.graph.ages) (unset : decision_of c k ≡ None) where
    one-open : open_words (set c.words k (Some decision.Marked)) + 1 ≡ open_words c.words
    one-open = fewer-open c.words k decision.Marked (words-within less) unset

    pub room-for : 1 ≤ c.room
    room-for = let room : open_words c.words ≤ c.room = u.room in omega (arith, one-open, room)

    pub copied-few : c.copied + 1 < 2 ^ 64
    copied-few =
        let copied : c.copied ≡ copies_in c.won = u.copied in
        let many : open_words c.words + length c.won ≡ length p.graph.ages = u.many in
        let few : length p.graph.ages < 2 ^ 32 = u.few in
        omega (arith, copied, copies-few c.won, many, few)

-- an object of the next age
pub age-young : (age : ℕ) → next_age age ≤ 24
age-young age = by (nat_lt age 24) refl
  where
    by : (b : Bool) → nat_lt age 24 ≡ b → (if b then age + 1 else 24) ≤ 24
    by true is = let less : age < 24 = ltb-true age 24 is in omega (arith, less)
    by false is = omega arith

pub goes-none : (p : Plan) (c : Course) → IsUnderWay p c → IsSettled p c → Goes p c c
goes-none p c u s = record { under = u; events = comes-none (state_of (world_for p) c); grows = λ i t at. at; settled = s }

pub goes-then : (p : Plan) (c m n : Course) → Goes p c m → Goes p m n → Goes p c n
goes-then p c m n one two = record {
  under = two.under;
  events = comes-then (state_of (world_for p) c) (state_of (world_for p) m) (state_of (world_for p) n) one.events two.events;
  grows = λ i t at. two.grows i t (one.grows i t at);
  settled = two.settled;
}

module _ (p : Plan) (c n : Course) (k age size : ℕ) (tried : Tried p c n age size) (asked : IsAsked p c k) (less : k < length p.graph.ages)
    (unset : decision_of c k ≡ None) where
  within : k < length n.words
  within = words-within p n tried.under k less

  still-unset : decision_of n k ≡ None
  still-unset = ap (λ l. get_or l k None) tried.words ∙ unset

  still-asked : IsAsked p n k
  still-asked = subst (λ l. IsTrue (is_reached (world_for p) l k)) (sym tried.won) asked

  after-try : (f : Course) → Goes p n f → Goes p c f
  after-try f goes = record {
    under = goes.under;
    events = comes-then (state_of (world_for p) c) (state_of (world_for p) n) (state_of (world_for p) f) tried.comes goes.events;
    grows = λ i t at. goes.grows i t (subst (λ l. At l i t) (sym tried.won) at);
    settled = goes.settled;
  }

  -- there is room: it is copied
  pub copy-decides : (f : Course) (words : List ℕ) → size ≡ length words → n.cause ≡ None → age ≡ next_age (age_of (world_for p) k) → At p.graph.words k words
      → Copies n f k age words → Goes p c f
  copy-decides f words size_is calm age_is at copies =
      let place = copies.reserves.place in
      let words_are : words ≡ words_in p.graph k = sym (get_or_from_slice_get p.graph.words k words [] at) in
      let exact : f ≡ copied_at n k copies.address place words
      = copies.exact ∙ ap (copied_to n k copies.address words) copies.reserves.exact in
      after-try f (subst (Goes p n) (sym exact)
      (copy-goes p n tried.under k within still-unset still-asked age copies.address place words calm age_is words_are
      (object-at p n tried.under k words at).smallest copies.reserves.held copies.reserves.age_is copies.reserves.fits copies.reserves.address_is
      (tried.below calm)
      (subst (λ s. (i : ℕ) → i < length n.buffers.regions → (1 ≤ (land_at n.buffers i).used) ⊎ (open_place n.buffers age ≡ Some i) × IsFor p n age s i)
      size_is tried.filled) copies.reserves.open_is))

  -- there is none: it is marked
  -- it is marked: if the pool is used up, it is the first one, or one was marked before
  stuck-on : age ≡ next_age (age_of (world_for p) k) → size ≡ size_of (world_for p) k → IsTrue (is_dry n.cause) → IsStuck p (decided n k decision.Marked)
  stuck-on age_is size_is dry = elim (tried.stuck dry) [
    | inl before ↦ record {
      object = before.object;
      first = at-kept n.won (told k decision.Marked ∷ []) (told before.object decision.Marked) n.copied before.first;
      none_left = before.none_left;
      no_room = before.no_room;
    }
    | inr now ↦ record {
      object = k;
      first = subst (λ i. At (n.won ++ told k decision.Marked ∷ []) i (told k decision.Marked)) now.2 (at-last n.won (told k decision.Marked));
      none_left = now.0;
      no_room = subst (λ s. IsTrue (wants_region n.buffers (next_age (age_of (world_for p) k)) s)) size_is
          (subst (λ a. IsTrue (wants_region n.buffers a size)) age_is now.1);
    }
  ]

  pub mark-decides : (f : Course) → age ≡ next_age (age_of (world_for p) k) → size ≡ size_of (world_for p) k → is_none n.cause ≡ false → f ≡ decided n k decision.Marked → Goes p c f
  mark-decides f age_is size_is raised exact =
      let cause : (x : Abort) × (n.cause ≡ Some x) = raised-is n.cause raised in
      let any : IsTrue (is_some n.cause) = ap is_some cause.1 in
      after-try f (subst (Goes p n) (sym exact) (mark-goes p n tried.under k within still-unset still-asked cause.0 cause.1 any (tried.settled any)
      (stuck-on age_is size_is)))

  pub has-copied : (f : Course) (words : List ℕ) → Copies n f k age words → HasDecided f k
  has-copied f words copies =
      ap (λ x. is_some (decision_of x k)) copies.exact ∙ ap is_some (get_or-set_same n.words k (Some (decision.Copied copies.address)) None within)

  pub has-marked : (f : Course) → f ≡ decided n k decision.Marked → HasDecided f k
  has-marked f exact = ap (λ x. is_some (decision_of x k)) exact ∙ ap is_some (get_or-set_same n.words k (Some decision.Marked) None within)

-- The same of an evacuation of this graph with this limit.
module _ (p : Plan) (g : Graph) (limit : Option ℕ) (c : Course) (k : ℕ) (going : IsGoing p g limit c) where
  pub here-words : (words : List ℕ) → At g.words k words → At p.graph.words k words
  here-words words at = subst (λ (x : Graph). At x.words k words) (sym going.0) at

  pub here-within : IsAsked p c k → k < length g.ages
  here-within asked = subst (λ (x : Graph). k < length x.ages) going.0 (asked-within p c going.2 k asked)

  pub here-few : (words : List ℕ) → At g.words k words → length words < 2 ^ 32
  here-few words at = object-few p c going.2 k words (here-words words at)

  pub here-smallest : (words : List ℕ) → At g.words k words → 2 ≤ length words
  here-smallest words at = (object-at p c going.2 k words (here-words words at)).smallest

  pub here-largest : (words : List ℕ) → At g.words k words → length words ≤ largest_of c.buffers.shape
  here-largest words at = object-largest p c going.2 k words (here-words words at)

  module _ (age size : ℕ) (n : Course) (young : age ≤ 24) (is : n ≡ tried c limit age size) where
    pub sought : Tried p c n age size
    sought = subst (λ x. Tried p c x age size) (ap (λ l. tried c l age size) going.1 ∙ sym is) (tries p c going.2 going.3 age size young)

    pub sought-object : (words : List ℕ) → At g.words k words → land.IsObject n.buffers.shape.words words
    sought-object words at = object-region p n sought.under k words (here-words words at)

    pub sought-idle : n.buffers.reserved ≡ None
    sought-idle = sought.under.idle

    module _ (asked : IsAsked p c k) (unset : decision_of c k ≡ None) where
      pub sought-within : k < length n.words
      sought-within = words-within p n sought.under k (asked-within p c going.2 k asked)

      sought-unset : decision_of n k ≡ None
      sought-unset = ap (λ l. get_or l k None) sought.words ∙ unset

      pub sought-room : 1 ≤ n.room
      sought-room = room-for p n sought.under k (asked-within p c going.2 k asked) sought-unset

      pub sought-few : n.copied + 1 < 2 ^ 64
      sought-few = copied-few p n sought.under k (asked-within p c going.2 k asked) sought-unset

      pub sought-copies : (f : Course) (words : List ℕ) (old : ℕ) → size ≡ length words → n.cause ≡ None → age ≡ next_age old → At g.ages k old → At g.words k words
          → Copies n f k age words → Goes p c f
      sought-copies f words old size_is calm age_is age_at at copies =
          let here : At p.graph.ages k old = subst (λ (x : Graph). At x.ages k old) (sym going.0) age_at in
          let same : age_of (world_for p) k ≡ old = get_or_from_slice_get p.graph.ages k old 0 here in
          copy-decides p c n k age size sought asked (asked-within p c going.2 k asked) unset f words size_is calm (age_is ∙ ap next_age (sym same)) (here-words words at) copies

      pub sought-marks : (f : Course) (words : List ℕ) (old : ℕ) → age ≡ next_age old → At g.ages k old → At g.words k words → size ≡ length words
          → is_none n.cause ≡ false → f ≡ decided n k decision.Marked → Goes p c f
      sought-marks f words old age_is age_at at size_at raised exact =
          let here : At p.graph.ages k old = subst (λ (x : Graph). At x.ages k old) (sym going.0) age_at in
          let same : age_of (world_for p) k ≡ old = get_or_from_slice_get p.graph.ages k old 0 here in
          let size_is : size ≡ size_of (world_for p) k
          = size_at ∙ sym (size-is p k ∙ ap (λ (l : List ℕ). length l) (get_or_from_slice_get p.graph.words k words [] (here-words words at))) in
          mark-decides p c n k age size sought asked (asked-within p c going.2 k asked) unset f (age_is ∙ ap next_age (sym same)) size_is raised exact

      pub sought-copied : (f : Course) (words : List ℕ) → Copies n f k age words → HasDecided f k
      sought-copied f words copies = has-copied p c n k age size sought asked (asked-within p c going.2 k asked) unset f words copies

      pub sought-marked : (f : Course) → f ≡ decided n k decision.Marked → HasDecided f k
      sought-marked f exact = has-marked p c n k age size sought asked (asked-within p c going.2 k asked) unset f exact
