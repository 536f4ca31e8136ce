-- What is changed in a heap, and which board it meets then.
use Rattle.std.proofs.Common.{◌≡◌, ◌<◌, ◌+◌, ℕ, ◌∷◌, List, [], length, get_or, set, replicate, None, Some, refl, ap, ap₂, sym, subst, ◌∙◌, length-append, length-set}
use Rattle.std.proofs.Math.ListN.{get_or-map}
use Rattle.std.proofs.Math.Seq.{map-set_same}
use Rattle.std.proofs.lemmas.List.{map-set}
use Rattle.bal_layout.specs.Shape.{Shape}
use Rattle.bal_layout.specs.declared.geometry.Want.{Want}
use Rattle.bal_layout.specs.declared.name.Kind.{Kind}
use Rattle.bal_layout.specs.declared.name.Name.{Name}
use Rattle.bal_meet.specs.Decode.{Decodes, placed_at}
use Rattle.bal_meet.specs.Heap.{Account, Heap, Meets, Places, account_of, made_counts, next_made, spot_at, with_object_in, with_root, with_things}
use Rattle.bal_meet.proofs.Objects.{nobody}
use Rattle.bal_meet.proofs.Writing.{empty-decodes, global-decodes, number-decodes, object-decodes, reference-decodes, register-decodes}
use Rattle.bal_model.specs.Plain.{Mutator, State, adopting, holding, mutator, next_name, with_global, with_mutator, with_reference, with_register, with_value}
use Rattle.bal_model.specs.declared.config.Config.{Config}
use Rattle.bal_roots.specs.Roots.{global_place, null_roots, register_place}
use Rattle.bal_rules.specs.Board.{Board, Placed, opening, with_placed}
use Rattle.bal_rules.specs.RowEvents.{board_with_object}
use Rattle.bal_words.specs.Shown.{Finds, blank_object, name_behind}
use Rattle.bal_words.specs.Things.{Thing, Things, Updated, with_ref, with_value as with_number}

-- How many objects each thread has made.

-- where a mutator is replaced by one that made as many, the counts stay
counts-kept : (s : State) (t : ℕ) (m : Mutator) → length m.made ≡ length (mutator s t).made → made_counts (with_mutator s t m) ≡ made_counts s
counts-kept s t m same = map-set_same (λ (n : Mutator). length n.made) s.mutators t m nobody same

-- the count of a thread is how many it made
count-of : (s : State) (t : ℕ) → get_or (made_counts s) t 0 ≡ length (mutator s t).made
count-of s t = get_or-map (λ (m : Mutator). length m.made) s.mutators t nobody

-- a thread that makes one more has one more
counts-more : (s : State) (t : ℕ) (m : Mutator) → length m.made ≡ length (mutator s t).made + 1
    → made_counts (with_mutator s t m) ≡ set (made_counts s) t (get_or (made_counts s) t 0 + 1)
counts-more s t m more =
    map-set (λ (n : Mutator). length n.made) s.mutators t m
    ∙ ap (set (made_counts s) t) (more ∙ ap (λ n. n + 1) (sym (count-of s t)))

-- The plain state changes, and the counts stay.

-- the account is that of the new state
account-kept : (h : Heap) (b : Board) (s : State) → h.account ≡ account_of b → made_counts s ≡ made_counts b.plain → h.account ≡ account_of (record b { plain = s })
account-kept h b s old same = old ∙ ap (λ (made : List ℕ). record { made = made; regions = b.regions; current = b.current }) (sym same)

pub empty-meets : (c : Config) (h : Heap) → ((a : ℕ) → h.things a ≡ None) → h.roots ≡ null_roots → h.account ≡ account_of (opening c) → Meets h (opening c)
empty-meets c h none roots account = record {
  decodes = subst (λ rs. Decodes (spot_at h) h.things rs (opening c).plain []) (sym roots) (empty-decodes (spot_at h) h.things none);
  account = account;
}

pub register-meets : (h : Heap) (b : Board) (t r word : ℕ) → Meets h b → t < 32 → r < 32 → Finds h.things word
    → Meets (with_root (register_place t r) word h) (record b { plain = with_register b.plain t r (name_behind h.things word) })
register-meets h b t r word m thread number finds = record {
  decodes = register-decodes (spot_at h) h.things h.roots b.plain b.present t r word m.decodes thread number finds;
  account = account-kept h b (with_register b.plain t r (name_behind h.things word)) m.account
      (counts-kept b.plain t (holding r (name_behind h.things word) (mutator b.plain t)) refl);
}

pub global-meets : (h : Heap) (b : Board) (g word : ℕ) → Meets h b → g < 64 → Finds h.things word
    → Meets (with_root (global_place g) word h) (record b { plain = with_global b.plain g (name_behind h.things word) })
global-meets h b g word m number finds = record {
  decodes = global-decodes (spot_at h) h.things h.roots b.plain b.present g word m.decodes number finds;
  account = m.account;
}

pub reference-meets : (h : Heap) (b : Board) (things : Things) (a slot word : ℕ) (x : Thing) → Meets h b
    → h.things a ≡ Some x → Finds h.things word → Updated h.things things a (Some (with_ref slot word x))
    → Meets (with_things things h) (record b { plain = with_reference b.plain x.name slot (name_behind h.things word) })
reference-meets h b things a slot word x m is finds u = record {
  decodes = reference-decodes (spot_at h) h.things things h.roots b.plain b.present a slot word x m.decodes is finds u;
  account = account-kept h b (with_reference b.plain x.name slot (name_behind h.things word)) m.account
      (counts-kept b.plain x.name.thread _ (length-set (mutator b.plain x.name.thread).made _ _));
}

pub number-meets : (h : Heap) (b : Board) (things : Things) (a slot number : ℕ) (x : Thing) → Meets h b
    → h.things a ≡ Some x → Updated h.things things a (Some (with_number slot number x))
    → Meets (with_things things h) (record b { plain = with_value b.plain x.name slot number })
number-meets h b things a slot number x m is u = record {
  decodes = number-decodes (spot_at h) h.things things h.roots b.plain b.present a slot number x m.decodes is u;
  account = account-kept h b (with_value b.plain x.name slot number) m.account
      (counts-kept b.plain x.name.thread _ (length-set (mutator b.plain x.name.thread).made _ _));
}

-- An object is placed.

-- the account's next name is the plain state's
pub next-met : (h : Heap) (b : Board) (t : ℕ) → Meets h b → t < 32 → next_made h.account t ≡ next_name b.plain t
next-met h b t m thread =
    let counts : get_or h.account.made t 0 ≡ length (mutator b.plain t).made = ap (λ (a : Account). get_or a.made t 0) m.account ∙ count-of b.plain t in
    ap (λ (n : ℕ). record { thread = t; ordinal = n + 1 }) counts

pub placed-meets : (before after : Heap) (b : Board) (t r refs values a : ℕ) (kind : Kind) (w : Want) → Meets before b → t < 32 → r < 32
    → Places before after t r kind refs values w a
    → Meets after (board_with_object (next_name b.plain t) w (spot_at after a)
    (record b { plain = with_mutator b.plain t (adopting t r (blank_object kind refs values) (mutator b.plain t)) }))
placed-meets before after b t r refs values a kind w m thread number p = record { decodes = decodes; account = account }
  where
    now : State
    now = with_mutator b.plain t (adopting t r (blank_object kind refs values) (mutator b.plain t))

    lies : (c : ℕ) (x : Thing) → before.things c ≡ Some x → spot_at after c ≡ spot_at before c
    lies c x is =
        ap₂ (λ (s : Shape) (ls : List ℕ). spot_at (record before { shape = s; leaves = λ _. ls }) c) p.shape (p.leaves c x is)

    placed : List Placed
    placed = with_placed (placed_at (next_name b.plain t) (spot_at after a)) b.present

    decodes : Decodes (spot_at after) after.things after.roots now placed
    decodes = subst (λ rs. Decodes (spot_at after) after.things rs now placed) (sym p.roots)
        (object-decodes (spot_at before) (spot_at after) before.things after.things before.roots b.plain b.present t r a refs values kind lies m.decodes thread number
        p.none_started (subst (λ (n : Name). Updated before.things after.things a (Some (record { name = n; kind = kind; refs = replicate refs 0; values = replicate values 0 })))
        (next-met before b t m thread) p.object))

    counts : made_counts now ≡ set (made_counts b.plain) t (get_or (made_counts b.plain) t 0 + 1)
    counts = counts-more b.plain t (adopting t r (blank_object kind refs values) (mutator b.plain t))
        (length-append (mutator b.plain t).made (blank_object kind refs values ∷ []))

    account : after.account ≡ account_of (board_with_object (next_name b.plain t) w (spot_at after a) (record b { plain = now }))
    account = p.account ∙ (ap (with_object_in t w (spot_at after a)) m.account
        ∙ ap (λ (made : List ℕ). record (with_object_in t w (spot_at after a) (account_of b)) { made = made }) (sym counts))
