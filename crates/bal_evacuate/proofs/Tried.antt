-- Room is sought for an object: what holds afterwards.
use Rattle.std.proofs.Common.{◌≡◌, ◌⊎◌, ◌+◌, ◌<◌, ◌≤◌, ℕ, inl, inr, Bool, true, false, IsTrue, List, [], ◌∷◌, ◌++◌, length, drop, Option, Some, None, refl, ap, sym, subst, ◌∙◌, arith}
use Rattle.std.specs.Prelude.{is_some, if◌then◌else◌}
use Rattle.std.proofs.lemmas.Bool.{cases_lt, eq-eqb, eqb-true, false≢true}
use Rattle.std.proofs.lemmas.List.{length-append}
use Rattle.std.proofs.lemmas.Option.{none-some}
use Rattle.bal_layout.specs.declared.name.Abort.{Abort}
use Rattle.bal_layout.specs.declared.name.Abort.TheVariants as abort
use Rattle.bal_core.specs.World.{At, World}
use Rattle.bal_region.specs.Land.{Land}
use Rattle.bal_dest.specs.Buffers.{land_at, open_place, wants_region, with_region}
use Rattle.bal_dest.specs.declared.buffers.Destination.{Destination}
use Rattle.bal_dest.proofs.Lemmas.{before-added, last-of-added, open-added}
use Rattle.std.proofs.lemmas.Option.{get_or_from_slice_get}
use Rattle.bal_region.specs.Changes.{empty_land}
use Rattle.bal_evacuate.specs.Course.{Course, alone, drawn_by, drawn_from, is_dry, is_wish, state_of}
use Rattle.bal_evacuate.specs.Going.{IsSettled, IsUnderWay, after_draw, after_try, is_limit, raised, tried}
use Rattle.bal_evacuate.specs.Plan.{IsStuck, Plan, land_with_copies, numbers_of, pooled, world_for}
use Rattle.bal_evacuate.proofs.Drawn.{drawn-push, drawn_as, length-drawn}
use Rattle.bal_evacuate.proofs.NextFit.{IsFor, next-drawn, no-room-before}
use Rattle.bal_evacuate.proofs.Split.{split-raised}
use Rattle.bal_evacuate.proofs.Steps.{Comes, Step, comes-none, draw-step, drained-step, wish-step}
use Rattle.bal_evacuate.proofs.UnderWay.{next-at, next-empty, next-number, next-rest, none-left}

-- nothing is decided by it. Each region has a copy, but for one that was drawn for the object: it is the open one of its age
pub record Tried (p : Plan) (c n : Course) (age size : ℕ) : Type 0 where
  pub under : IsUnderWay p n
  pub comes : Comes (state_of (world_for p) c) (state_of (world_for p) n)
  pub won : n.won ≡ c.won
  pub words : n.words ≡ c.words
  pub filled : (i : ℕ) → i < length n.buffers.regions → (1 ≤ (land_at n.buffers i).used) ⊎ (open_place n.buffers age ≡ Some i) × IsFor p n age size i
  pub settled : IsTrue (is_some n.cause) → (i : ℕ) → i < length n.buffers.regions → 1 ≤ (land_at n.buffers i).used
  pub stuck : IsTrue (is_dry n.cause)
      → IsStuck p n ⊎ (n.spares ≡ []) × IsTrue (wants_region n.buffers age size) × (length n.won ≡ n.copied)
  pub below : n.cause ≡ None → p.limit ≡ Some n.copied → ⊥

limit-is : (limit : Option ℕ) (n : ℕ) → is_limit limit n ≡ true → limit ≡ Some n
limit-is None n is = absurd (false≢true is)
limit-is (Some most) n is = ap Some (eqb-true most n is)

limit-not : (limit : Option ℕ) (n : ℕ) → is_limit limit n ≡ false → limit ≡ Some n → ⊥
limit-not limit n not same = false≢true (sym not ∙ ap (λ l. is_limit l n) same ∙ eq-eqb n n refl)

-- the abort is not raised yet
module _ (p : Plan) (c : Course) (u : IsUnderWay p (record c { cause = None })) (s : IsSettled p c) (age size : ℕ) (young : age ≤ 24) where
  abbrev w : World
  w = world_for p

  abbrev calm : Course
  calm = record c { cause = None }

  abbrev Filled : Course → Type 0
  Filled n = (i : ℕ) → i < length n.buffers.regions → 1 ≤ (land_at n.buffers i).used

  -- an abort changes nothing else
  raised-so : (cause : Abort) → Step (state_of w calm) (state_of w (raised calm cause))
      → (IsTrue (is_wish (Some cause)) → p.limit ≡ Some c.copied)
      → (IsTrue (is_dry (Some cause)) → (c.spares ≡ []) × IsTrue (wants_region c.buffers age size)) → Tried p calm (raised calm cause) age size
  raised-so cause step wished dry = record {
    under = record {
      may = u.may;
      few = u.few;
      shape = u.shape;
      core = step.core;
      lands = u.lands;
      spares = u.spares;
      idle = u.idle;
      left = u.left;
      room = u.room;
      many = u.many;
      copied = u.copied;
      most = u.most;
      wished = wished;
      split = split-raised c.won c.copied None cause u.split;
      next = record { onward = u.next.onward; wanted = u.next.wanted };
    };
    comes = step.comes;
    won = refl;
    words = refl;
    filled = λ i less. inl (s.filled i less);
    settled = λ any i less. s.filled i less;
    stuck = λ is. let d = dry is in inr (d.0, d.1, u.split.calm refl);
    below = λ none. absurd (none-some cause (sym none));
  }

  try-wish : is_limit p.limit c.copied ≡ true → Tried p calm (raised calm (abort.Wished 0)) age size
  try-wish is = raised-so (abort.Wished 0) (wish-step w c.words c.won (drawn_by c) u.core) (λ wish. limit-is p.limit c.copied is)
      (λ dry. absurd (false≢true dry))

  try-dry : c.spares ≡ [] → IsTrue (wants_region c.buffers age size) → Tried p calm (raised calm abort.Drained) age size
  try-dry none wanted =
      raised-so abort.Drained (drained-step w c.words c.won (drawn_by c) age young (none-left p calm u none) u.core) (λ wish. absurd (false≢true wish))
      (λ dry. (none, wanted))

  module _ (l : Land) (ls : List Land) (next : c.spares ≡ l ∷ ls) (wanted : IsTrue (wants_region c.buffers age size)) (below : is_limit p.limit c.copied ≡ false) where
    abbrev d : Destination
    d = record { age = age; region = l }

    abbrev drawn : Course
    drawn = record calm { buffers = with_region c.buffers age l; spares = ls }

    more : length (c.buffers.regions ++ d ∷ []) ≡ length c.buffers.regions + 1
    more = length-append c.buffers.regions (d ∷ [])

    drawn-more : drawn_from 0 (c.buffers.regions ++ d ∷ []) ≡ drawn_by c ++ drawn_as (length (drawn_by c)) d ∷ []
    drawn-more =
        let long : length (drawn_by c) ≡ length c.buffers.regions = length-drawn 0 c.buffers.regions in
        let front : 0 + length c.buffers.regions ≡ length (drawn_by c) = omega (arith, long) in
        drawn-push 0 c.buffers.regions d ∙ ap (λ n. drawn_by c ++ drawn_as n d ∷ []) front

    step : Step (state_of w calm) (state_of w drawn)
    step =
        let long : length c.buffers.regions ≡ length (drawn_by c) + 0 = (let e : length (drawn_by c) ≡ length c.buffers.regions = length-drawn 0 c.buffers.regions in omega (arith, e)) in
        subst (Step (state_of w calm)) (ap (λ ds. alone w c.words c.won ds None) (sym drawn-more))
        (draw-step w c.words c.won (drawn_by c) age l.number young (subst (λ n. At (numbers_of p.pool) n l.number) long (next-number p calm u l ls next)) u.core)

    -- a region that was there before, or the new one
    old-or-new : (i : ℕ) → i < length (c.buffers.regions ++ d ∷ []) → (i < length c.buffers.regions) ⊎ (i ≡ length c.buffers.regions)
    old-or-new i less = elim (cases_lt i (length c.buffers.regions)) [ inl old ↦ inl old | inr new ↦ inr (omega (arith, new, less, more)) ]

    old-land : (i : ℕ) → i < length c.buffers.regions → land_at drawn.buffers i ≡ land_at c.buffers i
    old-land i less = ap (λ (x : Destination). x.region) (before-added c.buffers age l i less)

    new-land : (i : ℕ) → i ≡ length c.buffers.regions → land_at drawn.buffers i ≡ land_with_copies p c.won (pooled p i)
    new-land i same =
        let there : pooled p i ≡ l = ap (pooled p) same ∙ get_or_from_slice_get p.pool (length c.buffers.regions) l (empty_land 0 0) (next-at p calm u l ls next) in
        ap (λ (x : Destination). x.region) (last-of-added c.buffers age l i same)
        ∙ sym (ap (land_with_copies p c.won) there ∙ next-empty p calm u l ls next)

    -- it was drawn for the object
    drawn-for : (i : ℕ) → i ≡ length c.buffers.regions → IsFor p drawn age size i
    drawn-for i new q before is none =
        let less : q < length c.buffers.regions = omega (arith, before, new) in
        let full : c.buffers.shape.words < (land_at c.buffers q).used + size
        = no-room-before c.buffers age size q wanted less (sym (ap (λ (x : Destination). x.age) (before-added c.buffers age l q less)) ∙ is)
        (λ r after until here. none r after (omega (arith, until, new)) (ap (λ (x : Destination). x.age) (before-added c.buffers age l r until) ∙ here)) in
        subst (λ (x : Land). p.shape.words < x.used + size) (sym (old-land q less)) (subst (λ x. x.words < (land_at c.buffers q).used + size) u.shape full)

    try-draw : Tried p calm drawn age size
    try-draw = record {
      under = record {
        may = u.may;
        few = u.few;
        shape = u.shape;
        core = step.core;
        lands = λ i less. elim (old-or-new i less) [ inl old ↦ old-land i old ∙ u.lands i old | inr new ↦ new-land i new ];
        spares = sym (ap (λ n. drop n p.pool) more ∙ next-rest p calm u l ls next);
        idle = u.idle;
        left = (let left : c.buffers.room ≡ length (l ∷ ls) = u.left ∙ ap (λ (x : List Land). length x) next in omega (arith, left));
        room = u.room;
        many = u.many;
        copied = u.copied;
        most = u.most;
        wished = u.wished;
        split = u.split;
        next = next-drawn p calm u age l ls next;
      };
      comes = step.comes;
      won = refl;
      words = refl;
      filled = λ i less. elim (old-or-new i less) [
        | inl old ↦ inl (subst (λ (x : Land). 1 ≤ x.used) (sym (old-land i old)) (s.filled i old))
        | inr new ↦ inr (open-added c.buffers age l ∙ ap Some (sym new), drawn-for i new)
      ];
      settled = λ any. absurd (false≢true any);
      stuck = λ dry. absurd (false≢true dry);
      below = λ none same. limit-not p.limit c.copied below same;
    }

  try-none : is_limit p.limit c.copied ≡ false → Tried p calm calm age size
  try-none below = record {
    under = u;
    comes = comes-none (state_of w calm);
    won = refl;
    words = refl;
    filled = λ i less. inl (s.filled i less);
    settled = λ any. absurd (false≢true any);
    stuck = λ dry. absurd (false≢true dry);
    below = λ none same. limit-not p.limit c.copied below same;
  }

  by-pool : (ls : List Land) → c.spares ≡ ls → IsTrue (wants_region c.buffers age size) → is_limit p.limit c.copied ≡ false
      → Tried p calm (after_draw calm age ls) age size
  by-pool [] none wanted below = try-dry none wanted
  by-pool (l ∷ ls) next wanted below = try-draw l ls next wanted below

  by-want : (b : Bool) → wants_region c.buffers age size ≡ b → is_limit p.limit c.copied ≡ false
      → Tried p calm (if b then after_draw calm age c.spares else calm) age size
  by-want true wanted below = by-pool c.spares refl wanted below
  by-want false wanted below = try-none below

  try-calm : Tried p calm (after_try None calm p.limit age size) age size
  try-calm = by (is_limit p.limit c.copied) refl
    where
      by : (b : Bool) → is_limit p.limit c.copied ≡ b
          → Tried p calm (if b then raised calm (abort.Wished 0) else if wants_region c.buffers age size then after_draw calm age c.spares else calm) age size
      by true is = try-wish is
      by false below = by-want (wants_region c.buffers age size) refl below

pub tries : (p : Plan) (c : Course) → IsUnderWay p c → IsSettled p c → (age size : ℕ) → age ≤ 24 → Tried p c (tried c p.limit age size) age size
tries p c u s age size young = by c.cause refl
  where
    by : (o : Option Abort) → c.cause ≡ o → Tried p c (after_try o c p.limit age size) age size
    by None none =
        let same : record c { cause = None } ≡ c = ap (λ o. record c { cause = o }) (sym none) in
        subst (λ x. Tried p x (after_try None x p.limit age size) age size) same (try-calm p c (subst (IsUnderWay p) (sym same) u) s age size young)
    by (Some cause) some = record {
      under = u;
      comes = comes-none (state_of (world_for p) c);
      won = refl;
      words = refl;
      filled = λ i less. inl (s.filled i less);
      settled = λ any i less. s.filled i less;
      stuck = λ dry. inl (s.stuck dry);
      below = λ none. absurd (none-some cause (sym none ∙ some));
    }
