-- How an evacuation begins, and what is known of it when the walk ends.
use Rattle.std.proofs.Common.{◌≡◌, ◌+◌, ◌*◌, ◌^◌, ◌<◌, ◌≤◌, ℕ, zero, suc, inl, inr, true, IsTrue, List, [], length, drop, map, replicate, Option, Some, None, refl, ap, sym, subst, ◌∙◌, arith}
use Rattle.std.specs.Prelude.{is_some}
use Rattle.std.proofs.lemmas.Bool.{false≢true}
use Rattle.std.proofs.lemmas.List.{ext_get_or, length-map}
use Rattle.std.proofs.lemmas.List.Folds.{sum_by-replicate}
use Rattle.std.proofs.lemmas.Option.{get_or_from_slice_get, none-some, same_Some}
use Rattle.bal_layout.specs.Shape.{IsShape, largest_of}
use Rattle.bal_layout.specs.declared.name.Abort.{Abort}
use Rattle.bal_core.specs.declared.event.CoreEvent.{CoreEvent}
use Rattle.bal_core.specs.declared.event.Decision.TheVariants as decision
use Rattle.bal_core.specs.declared.row.Told.{Told}
use Rattle.bal_core.specs.declared.row.Drawn.{Drawn}
use Rattle.bal_core.specs.Core.{IsCore}
use Rattle.bal_core.specs.Finished.{AreFilled, ArePackedTight, Evacuation, IsAborted, IsEvacuated, IsWithinLimit, LeavesSome, Receives, copies_by, filled}
use Rattle.bal_core.specs.Rest.{IsAtRest}
use Rattle.bal_core.specs.Start.{start_of}
use Rattle.bal_core.specs.Steps.{after_all, told, used}
use Rattle.bal_core.specs.World.{At, Graph, State, World, row_of, word_of}
use Rattle.bal_core.proofs.Lemmas.{evacuated, start-core}
use Rattle.bal_region.specs.Changes.{empty_land}
use Rattle.bal_region.specs.Land.{Land}
use Rattle.bal_dest.specs.Buffers.{IsBuffers, destination_at, land_at, no_buffers}
use Rattle.bal_dest.specs.declared.buffers.Destination.{Destination}
use Rattle.bal_evacuate.specs.Course.{Course, alone, drawn_by, drawn_from, is_dry, is_wish, state_of}
use Rattle.bal_evacuate.specs.Going.{Goes, HasDecided, HasScanned, IsBegun, IsGoing, IsReady, IsSettled, IsUnderWay, copies_in, open_words}
use Rattle.bal_evacuate.specs.Plan.{IsNextFit, IsPrompt, MayEvacuate, Plan, filled_by, numbers_of, shown, world_for}
use Rattle.bal_evacuate.proofs.Copied.{one_if_open}
use Rattle.bal_evacuate.proofs.Drawn.{drawn-is, drawn_as, length-drawn}
use Rattle.bal_evacuate.proofs.Lists.{at-mapped, at-replicate}
use Rattle.bal_evacuate.proofs.UnderWay.{drawn-here, used-at}
use Rattle.bal_evacuate.proofs.Walk.{some-is}

-- The beginning.

module _ (p : Plan) (room : ℕ) (may : MayEvacuate p) (shape : IsShape p.shape) where
  abbrev fresh : Course
  fresh = record {
    words = replicate (length p.graph.ages) None;
    won = [];
    room = room;
    copied = 0;
    buffers = no_buffers p.shape (length p.pool);
    spares = p.pool;
    cause = None;
  }

  sizes : length (world_for p).sizes ≡ length p.graph.ages
  sizes = length-map p.graph.words length ∙ may.start.graph.words

  fresh-state : state_of (world_for p) fresh ≡ start_of (world_for p) 1
  unfolding drawn_from
  fresh-state = ap (λ n. alone (world_for p) (replicate n None) [] [] None) (sym sizes)

  all-open : open_words fresh.words ≡ length p.graph.ages
  all-open = let sum : open_words fresh.words ≡ length p.graph.ages * 1 = sum_by-replicate one_if_open (length p.graph.ages) None in omega (arith, sum)

  fresh-under : length p.graph.ages ≤ room → length p.graph.ages < 2 ^ 32 → IsUnderWay p fresh
  fresh-under enough few = record {
    may = may;
    few = few;
    shape = refl;
    core = subst IsCore (sym fresh-state) (start-core p.shape p.graph p.roots (numbers_of p.pool) 1 may.start shape);
    lands = λ i less. absurd (omega (arith, less));
    spares = refl;
    idle = refl;
    left = refl;
    room = omega (arith, all-open, enough);
    many = omega (arith, all-open);
    copied = refl;
    most = λ most limit. omega arith;
    wished = λ wish. absurd (false≢true wish);
    split = record {
      copies = λ i k a at. absurd (none-some (told k (decision.Copied a)) at);
      marks = λ i k at. absurd (none-some (told k decision.Marked) at);
      few = omega arith;
      calm = λ none. refl;
    };
    next = record {
      onward = λ i j m n k l a b before less. absurd (omega (arith, less));
      wanted = λ i j n l b before less. absurd (omega (arith, less));
    };
  }

  fresh-settled : IsSettled p fresh
  fresh-settled = record { filled = λ i less. absurd (omega (arith, less)); marked = λ any. absurd (false≢true any); stuck = λ dry. absurd (false≢true dry) }

-- nothing was done yet: so it is as at first
begun-is : (p : Plan) (c : Course) → IsReady p c → (may : MayEvacuate p) (shape : IsShape p.shape) → c ≡ fresh p c.room may shape
begun-is p c ready may shape =
    let b : IsBegun p.shape (length p.graph.ages) p.pool c = ready.begun in
    ap (λ x. record c { words = x }) b.words ∙ ap (λ x. record c { words = replicate (length p.graph.ages) None; won = x }) b.won
    ∙ ap (λ x. record c { words = replicate (length p.graph.ages) None; won = []; copied = x }) b.copied
    ∙ ap (λ x. record c { words = replicate (length p.graph.ages) None; won = []; copied = 0; buffers = x }) b.buffers
    ∙ ap (λ x. record c { words = replicate (length p.graph.ages) None; won = []; copied = 0; buffers = no_buffers p.shape (length p.pool); spares = x }) b.spares
    ∙ ap (λ x. record { words = replicate (length p.graph.ages) None; won = []; room = c.room; copied = 0; buffers = no_buffers p.shape (length p.pool); spares = p.pool; cause = x }) b.cause

begun-under : (p : Plan) (c : Course) → IsReady p c → IsUnderWay p c
begun-under p c ready =
    subst (IsUnderWay p) (sym (begun-is p c ready ready.may ready.shape)) (fresh-under p c.room ready.may ready.shape ready.begun.room ready.begun.few)

begun-settled : (p : Plan) (c : Course) → IsReady p c → IsSettled p c
begun-settled p c ready = subst (IsSettled p) (sym (begun-is p c ready ready.may ready.shape)) (fresh-settled p c.room ready.may ready.shape)

-- an evacuation that is ready is under way, by its plan
pub ready-going : (q p : Plan) (c : Course) → q ≡ p → IsReady q c → IsGoing p q.graph q.limit c × (p.roots ≡ q.roots)
ready-going q p c same ready =
    subst (λ x. IsGoing x q.graph q.limit c × (x.roots ≡ q.roots)) same ((refl, refl, begun-under q c ready, begun-settled q c ready), refl)

begun-state : (p : Plan) (c : Course) → IsReady p c → state_of (world_for p) c ≡ start_of (world_for p) 1
begun-state p c ready =
    ap (state_of (world_for p)) (begun-is p c ready ready.may ready.shape) ∙ fresh-state p c.room ready.may ready.shape

-- The end.

pub record IsEnded (p : Plan) (c : Course) : Type 0 where
  pub events : (events : List CoreEvent) × (state_of (world_for p) c ≡ after_all events (start_of (world_for p) 1))
  pub rest : IsAtRest (state_of (world_for p) c)
  pub evacuated : IsEvacuated (shown p c)
  pub tight : ArePackedTight (shown p c)
  pub limit : IsWithinLimit p.limit (shown p c)
  pub some : LeavesSome (shown p c)
  pub filled : AreFilled (shown p c)
  pub prompt : IsPrompt p c
  pub next : IsNextFit p c
  pub copies : c.buffers.regions ≡ map (filled_by p c.won) (drawn_by c)
  pub spares : c.spares ≡ drop (length c.buffers.regions) p.pool
  pub idle : c.buffers.reserved ≡ None
  pub few : length c.won < 2 ^ 32

module _ (p : Plan) (c : Course) (u : IsUnderWay p c) (settled : IsSettled p c) where
  abbrev w : World
  w = world_for p

  abbrev s : State
  s = state_of (world_for p) c

  abbrev e : Evacuation
  e = shown p c

  -- the one worker
  only-receives : (n i : ℕ) (d : Drawn) → Receives e n i d → (n ≡ 0) × At (drawn_by c) i d
  only-receives zero i d here = (refl, here)
  only-receives (suc n) i d here = absurd (none-some d here)

  only-won : (n i : ℕ) (t : Told) → At (row_of s n).won i t → At c.won i t
  only-won zero i t at = at
  only-won (suc n) i t at = absurd (none-some t at)

  filled-is : (n i : ℕ) (d : Drawn) → Receives e n i d → (i < length c.buffers.regions) × (d.age ≡ (destination_at c.buffers.regions i).age)
      × (filled e n d ≡ (land_at c.buffers i).used)
  filled-is (suc n) i d here = absurd (none-some d here)
  filled-is zero i d here =
      let is = drawn-is c.buffers.regions i d here in (
        is.0,
        ap (λ (x : Drawn). x.age) is.1,
        ap (λ (x : Drawn). used w x.region c.won) is.1 ∙ sym (used-at p c u i is.0),
      )

  rest : ((i k : ℕ) → At p.roots i k → HasDecided c k) → ((i : ℕ) (t : Told) → At c.won i t → HasScanned p.graph c t.object) → IsAtRest s
  rest roots scanned = record {
    roots = λ k root. some-is (word_of s k) (roots root.0 k root.1);
    targets = λ j k decided points.
        let won = u.core.won.won j decided.0 decided.1 in
        some-is (word_of s k) (scanned won.1 (told j decided.0) (only-won won.0 won.1 (told j decided.0) won.2) points.0 k points.1);
  }

  tight : IsBuffers c.buffers → ArePackedTight e
  tight is = record {
    tight = λ n i j d f one two before same.
        let first = filled-is n i d one in
        let second = filled-is n j f two in
        let full : c.buffers.shape.words < (land_at c.buffers i).used + largest_of c.buffers.shape
        = is.tight i j before second.0 (sym first.1 ∙ same ∙ second.1) in
        let here : p.shape.words < (land_at c.buffers i).used + largest_of p.shape
        = subst (λ x. x.words < (land_at c.buffers i).used + largest_of x) u.shape full in
        subst (λ x. p.shape.words < x + largest_of p.shape) (sym first.2) here;
  }

  copies-are : (n : ℕ) → copies_by e n ≤ c.copied
  copies-are zero = let copied : c.copied ≡ copies_in c.won = u.copied in omega (arith, copied)
  copies-are (suc n) = omega arith

  wish-is : (n : ℕ) → At e.wished n true → (n ≡ 0) × IsTrue (is_wish c.cause)
  wish-is zero at = (refl, same_Some (is_wish c.cause) true at)
  wish-is (suc n) at = absurd (at-replicate 31 n at)

  within : IsWithinLimit p.limit e
  within = record {
    copied = λ n most limit. let few : c.copied ≤ most = u.most most limit in omega (arith, few, copies-are n);
    wished = λ n at.
        let wish = wish-is n at in
        subst (λ m. p.limit ≡ Some (copies_by e m)) (sym wish.0) (u.wished wish.1 ∙ ap Some u.copied);
  }

  raised-by-wish : (o : Option Abort) → is_wish o ≡ true → is_some o ≡ true
  raised-by-wish None is = absurd (false≢true is)
  raised-by-wish (Some cause) is = refl

  raised-by-draw : (o : Option Abort) → is_dry o ≡ true → is_some o ≡ true
  raised-by-draw None is = absurd (false≢true is)
  raised-by-draw (Some cause) is = refl

  raised : IsAborted e → IsTrue (is_some c.cause)
  raised (inl drained) = raised-by-draw c.cause drained
  raised (inr wished) = raised-by-wish c.cause (wish-is wished.0 wished.1).1

  leaves : LeavesSome e
  leaves = record { marked = λ aborted. let marked = settled.marked (raised aborted) in (0, marked.0, marked.1, marked.2) }

  all-filled : AreFilled e
  all-filled = record {
    filled = λ n i d here. let is = filled-is n i d here in subst (λ x. 1 ≤ x) (sym is.2) (settled.filled i is.0);
  }

  abbrev none : Destination
  none = record { age = 0; region = empty_land 0 0 }

  abbrev undrawn : Drawn
  undrawn = record { ordinal = 0; region = 0; age = 0 }

  copies : c.buffers.regions ≡ map (filled_by p c.won) (drawn_by c)
  copies =
      ext_get_or none c.buffers.regions (map (filled_by p c.won) (drawn_by c))
      (sym (length-map (drawn_by c) (filled_by p c.won) ∙ length-drawn 0 c.buffers.regions))
      (λ i less.
      let here : At (drawn_by c) i (drawn_as i (destination_at c.buffers.regions i)) = drawn-here p c u i less in
      let at : At (map (filled_by p c.won) (drawn_by c)) i (filled_by p c.won (drawn_as i (destination_at c.buffers.regions i)))
      = at-mapped (filled_by p c.won) (drawn_by c) i (drawn_as i (destination_at c.buffers.regions i)) here in
      ap (λ (l : Land). record { age = (destination_at c.buffers.regions i).age; region = l }) (u.lands i less)
      ∙ sym (get_or_from_slice_get (map (filled_by p c.won) (drawn_by c)) i (filled_by p c.won (drawn_as i (destination_at c.buffers.regions i))) none at))

pub ends : (p : Plan) (g : Graph) (roots : List ℕ) (c n : Course) → p.graph ≡ g → p.roots ≡ roots → IsReady p c → Goes p c n
    → ((i k : ℕ) → At roots i k → HasDecided n k) → ((i : ℕ) (t : Told) → At n.won i t → HasScanned g n t.object) → IsBuffers n.buffers → IsEnded p n
ends p g roots c n graph_is roots_are ready goes decided scanned is =
    let at_rest : IsAtRest (state_of (world_for p) n)
    = rest p n goes.under goes.settled (subst (λ l. (i k : ℕ) → At l i k → HasDecided n k) (sym roots_are) decided)
    (subst (λ x. (i : ℕ) (t : Told) → At n.won i t → HasScanned x n t.object) (sym graph_is) scanned) in
    record {
      events = (goes.events.0, goes.events.1 ∙ ap (after_all goes.events.0) (begun-state p c ready));
      rest = at_rest;
      evacuated = evacuated (state_of (world_for p) n) goes.under.core at_rest;
      tight = tight p n goes.under goes.settled is;
      limit = within p n goes.under goes.settled;
      some = leaves p n goes.under goes.settled;
      filled = all-filled p n goes.under goes.settled;
      prompt = record { copied = goes.under.split.copies; marked = goes.under.split.marks; few = goes.under.split.few; drained = goes.settled.stuck };
      next = goes.under.next;
      copies = copies p n goes.under goes.settled;
      spares = goes.under.spares;
      idle = goes.under.idle;
      few = omega (arith, goes.under.many, goes.under.few);
    }
