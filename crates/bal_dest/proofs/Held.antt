-- What is kept beside a worker's regions stays right under each change.
use Rattle.std.proofs.Common.{◌≡◌, ℕ, ◌+◌, ◌-◌, ◌<◌, ◌≤◌, Bool, true, false, leb, not, List, [], ◌∷◌, ◌++◌, length, map, get_or, set, Option, Some, None, option_map, refl, ap, sym, subst, ◌∙◌, arith, deque_len, deque_capacity, IsTrue, ◌↔◌, ◌^◌, Global, zero-le}
use Rattle.std.proofs.lemmas.List.{get_or_read, length-append, length-map, length-set, map-append}
use Rattle.std.proofs.lemmas.Bool.{false≢true, leb-false, leb-true}
use Rattle.std.proofs.lemmas.Option.{same_Some}
use Rattle.std.specs.VecDeque.{deque_with_item}
use Rattle.std.specs.declared.collections.VecDeque.{VecDeque}
use Rattle.bal_region.specs.Changes.{empty_land, with_object}
use Rattle.bal_region.specs.Land.{IsObject, Laid, Land}
use Rattle.bal_layout.specs.Shape.{largest_of}
use Rattle.bal_dest.specs.Buffers.{Buffers, HaveNoGaps, IsBuffers, IsDestination, MayReserve, destination_at, fits_at, land_at, last_place, open_place, placed_by, placed_in, reserved_words, wants_region, with_copy}
use Rattle.bal_dest.specs.Kept.{AreKept, buffers_of, left_place}
use Rattle.bal_dest.specs.declared.buffers.Buffers.TheInside.{Inside}
use Rattle.bal_dest.specs.declared.buffers.Destination.{Destination}
use Rattle.bal_dest.specs.declared.buffers.Reservation.{Reservation}
use Rattle.bal_dest.proofs.Packed.{IsBuffers-added, IsBuffers-filled, IsBuffers-left, IsBuffers-none, open-filled, open-last}
use Rattle.bal_dest.proofs.Places.{last-left, table-added}

abbrev none : Destination
none = record { age = 0; region = empty_land 0 0 }

module _ (a : Inside) (kept : AreKept a) where
  pub open-within : (age p : ℕ) → open_place (buffers_of a) age ≡ Some p → p < deque_len a.regions
  open-within age p e = omega (arith, (open-last (buffers_of a) age p e).0, a.regions.ok.0)

  pub region-read : (p : ℕ) (d : Destination) → p < length a.regions.items → d ≡ get_or a.regions.items p d → d ≡ destination_at a.regions.items p
  region-read p d less read = get_or_read a.regions.items p d less read none

  pub open-read : (age p : ℕ) (d : Destination) → open_place (buffers_of a) age ≡ Some p → d ≡ get_or a.regions.items p d → d ≡ destination_at a.regions.items p
  open-read age p d e read = region-read p d (open-last (buffers_of a) age p e).0 read

  pub open-number : (age p : ℕ) → open_place (buffers_of a) age ≡ Some p → (land_at (buffers_of a) p).number < a.geometry.regions
  open-number age p e = (kept.buffers.each p (open-last (buffers_of a) age p e).0).number

  -- an open region is asked whether it has room
  pub wants-read : (age p words : ℕ) (d : Destination) → open_place (buffers_of a) age ≡ Some p → d ≡ get_or a.regions.items p d → (fits : Bool)
      → (IsTrue fits ↔ (d.region.used + words ≤ length d.region.words)) → not fits ≡ wants_region (buffers_of a) age words
  wants-read age p words d e read fits is =
      let less = (open-last (buffers_of a) age p e).0 in
      let there = region-read p d less read in
      let long = (kept.buffers.each p less).words in
      ap not (by fits (leb ((land_at (buffers_of a) p).used + words) a.geometry.words) refl
      (subst (λ (x : Destination). IsTrue fits ↔ (x.region.used + words ≤ length x.region.words)) there is) long)
      ∙ ap (λ o. not (fits_at (buffers_of a) words o)) (sym e)
    where
      by : (fits room : Bool) → leb ((land_at (buffers_of a) p).used + words) a.geometry.words ≡ room
          → (IsTrue fits ↔ ((land_at (buffers_of a) p).used + words ≤ length (land_at (buffers_of a) p).words))
          → length (land_at (buffers_of a) p).words ≡ a.geometry.words → fits ≡ room
      by true true e is long = refl
      by false false e is long = refl
      by true false e is long = absurd (omega (arith, leb-false ((land_at (buffers_of a) p).used + words) a.geometry.words e, is.0 refl, long))
      by false true e is long = absurd (false≢true (is.1 (omega (arith, leb-true ((land_at (buffers_of a) p).used + words) a.geometry.words e, long))))

  pub room-left : (age p words : ℕ) → open_place (buffers_of a) age ≡ Some p → wants_region (buffers_of a) age words ≡ false → (land_at (buffers_of a) p).used + words ≤ a.geometry.words
  room-left age p words e wanted =
      leb-true ((land_at (buffers_of a) p).used + words) a.geometry.words (on (leb ((land_at (buffers_of a) p).used + words) a.geometry.words)
      (sym (ap (λ o. not (fits_at (buffers_of a) words o)) e) ∙ wanted))
    where
      on : (x : Bool) → not x ≡ false → x ≡ true
      on true e = refl
      on false e = absurd (false≢true (sym e))

  -- words are reserved in an open region that has room for them
  pub kept-reserved : (age p words : ℕ) → open_place (buffers_of a) age ≡ Some p → wants_region (buffers_of a) age words ≡ false
      → AreKept (record a { reserved = Some (record { place = p; words = words }) })
  kept-reserved age p words e wanted = record {
    buffers = record {
      each = kept.buffers.each;
      tight = kept.buffers.tight;
      reserved = λ r is. subst (MayReserve (buffers_of a)) (same_Some (record { place = p; words = words }) r is)
          ((open-last (buffers_of a) age p e).0, room-left age p words e wanted);
    };
    ages = kept.ages;
    last = kept.last;
    room = kept.room;
    few = kept.few;
  }

  -- the first region leaves
  pub kept-left : (d : Destination) (rest : VecDeque Destination Global) → a.regions.items ≡ d ∷ rest.items → deque_capacity rest ≡ deque_capacity a.regions → a.reserved ≡ None
      → AreKept (record a { regions = rest; taken = a.taken + 1 })
  kept-left d rest e capacity idle =
      let long : length a.regions.items ≡ length rest.items + 1 = ap (λ (ds : List Destination). length ds) e ∙ omega arith in
      record {
        buffers = IsBuffers-left (buffers_of a) d rest.items kept.buffers e idle;
        ages = kept.ages;
        last = λ n le. last-left a.taken (get_or a.last n None) n d.age (map (λ (x : Destination). x.age) rest.items)
            (kept.last n le ∙ ap (λ (ds : List Destination). last_place n (map (λ (x : Destination). x.age) ds)) e);
        room = omega (arith, kept.room, long, capacity);
        few = omega (arith, kept.few, long);
      }

  -- a region is added
  pub kept-added : (age : ℕ) (l : Land) (more : VecDeque Destination Global) → age ≤ 24 → IsDestination a.geometry (record { age = age; region = l })
      → wants_region (buffers_of a) age (largest_of a.geometry) ≡ true → 1 ≤ a.room → more.items ≡ a.regions.items ++ record { age = age; region = l } ∷ []
      → deque_capacity more ≡ deque_capacity a.regions
      → AreKept (record a { regions = more; last = set a.last age (Some (a.taken + deque_len a.regions)); room = a.room - 1 })
  kept-added age l more least fresh wanted some e capacity =
      let fresh_list = a.regions.items ++ record { age = age; region = l } ∷ [] in
      let long : length more.items ≡ length a.regions.items + 1 = ap (λ (ds : List Destination). length ds) e ∙ length-append a.regions.items (record { age = age; region = l } ∷ []) in
      let ages = map (λ (x : Destination). x.age) a.regions.items in
      let count : deque_len a.regions ≡ length ages = a.regions.ok.0 ∙ sym (length-map a.regions.items (λ (x : Destination). x.age)) in
      let ages_more : ages ++ age ∷ [] ≡ map (λ (x : Destination). x.age) more.items =
      sym (ap (λ (ds : List Destination). map (λ (x : Destination). x.age) ds) e ∙ map-append (λ (x : Destination). x.age) a.regions.items (record { age = age; region = l } ∷ [])) in
      record {
        buffers = subst (λ (ds : List Destination). IsBuffers (record (buffers_of a) { regions = ds; room = a.room - 1 })) (sym e)
            (IsBuffers-added (buffers_of a) age l kept.buffers fresh wanted);
        ages = length-set a.last age (Some (a.taken + deque_len a.regions)) ∙ kept.ages;
        last = λ n le. ap (λ k. left_place a.taken (get_or (set a.last age (Some (a.taken + k))) n None)) count
            ∙ (table-added a.last a.taken age n ages (omega (arith, least, kept.ages)) (kept.last n le) ∙ ap (last_place n) ages_more);
        room = omega (arith, kept.room, long, capacity, some);
        few = omega (arith, kept.few, long, some);
      }

  -- an object is placed where words were reserved for it
  pub reserved-within : (r : Reservation) → a.reserved ≡ Some r → r.place < deque_len a.regions
  reserved-within r e = omega (arith, (kept.buffers.reserved r e).0, a.regions.ok.0)

  pub reserved-read : (r : Reservation) (d : Destination) → a.reserved ≡ Some r → d ≡ get_or a.regions.items r.place d → d ≡ destination_at a.regions.items r.place
  reserved-read r d e read = region-read r.place d (kept.buffers.reserved r e).0 read

  pub reserved-long : (r : Reservation) (d : Destination) → a.reserved ≡ Some r → d ≡ get_or a.regions.items r.place d → length d.region.words ≡ a.geometry.words
  reserved-long r d e read =
      ap (λ (x : Destination). length x.region.words) (reserved-read r d e read) ∙ (kept.buffers.each r.place (kept.buffers.reserved r e).0).words

  pub reserved-fits : (r : Reservation) (d : Destination) → a.reserved ≡ Some r → d ≡ get_or a.regions.items r.place d → d.region.used + r.words ≤ length d.region.words
  reserved-fits r d e read =
      subst (λ (x : Destination). x.region.used + r.words ≤ length d.region.words) (sym (reserved-read r d e read))
      (omega (arith, (kept.buffers.reserved r e).1, reserved-long r d e read))

  -- the regions then
  items-filled : (r : Reservation) (d : Destination) (l : Land) (object : List ℕ) → a.reserved ≡ Some r → d ≡ get_or a.regions.items r.place d → l ≡ with_object d.region object
      → set a.regions.items r.place (record d { region = l }) ≡ placed_in a.regions.items r.place object
  items-filled r d l object e read is =
      ap (λ (m : Land). set a.regions.items r.place (record d { region = m })) is
      ∙ ap (λ (x : Destination). set a.regions.items r.place (record x { region = with_object x.region object })) (reserved-read r d e read)

  pub view-filled : (r : Reservation) (d : Destination) (l : Land) (object : List ℕ) (left : Option Reservation) → a.reserved ≡ Some r
      → d ≡ get_or a.regions.items r.place d → l ≡ with_object d.region object → left ≡ None
      → record { shape = a.geometry; regions = set a.regions.items r.place (record d { region = l }); reserved = left; room = a.room } ≡ with_copy (buffers_of a) object
  view-filled r d l object left e read is nothing =
      ap (λ (ds : List Destination). record { shape = a.geometry; regions = ds; reserved = left; room = a.room }) (items-filled r d l object e read is)
      ∙ (ap (λ (o : Option Reservation). record { shape = a.geometry; regions = placed_in a.regions.items r.place object; reserved = o; room = a.room }) nothing
      ∙ ap (λ (o : Option Reservation). record { shape = a.geometry; regions = placed_by a.regions.items o object; reserved = None; room = a.room }) (sym e))

  pub kept-filled : (r : Reservation) (d : Destination) (l : Land) (object : List ℕ) → a.reserved ≡ Some r → d ≡ get_or a.regions.items r.place d → l ≡ with_object d.region object
      → r.words ≡ length object → IsObject a.geometry.words object
      → AreKept (record a { regions = deque_with_item a.regions r.place (record d { region = l }); reserved = None })
  kept-filled r d l object e read is words object_is =
      let b = buffers_of a in
      let may = kept.buffers.reserved r e in
      let same = items-filled r d l object e read is in
      let fits : (destination_at a.regions.items r.place).region.used + length object ≤ a.geometry.words = omega (arith, may.1, words) in
      record {
        buffers = subst (λ (ds : List Destination). IsBuffers (record b { regions = ds; reserved = None })) (sym same)
            (IsBuffers-filled b r.place object kept.buffers may.0 fits object_is);
        ages = kept.ages;
        last = λ n le. kept.last n le ∙ (sym (open-filled b r.place object n may.0)
            ∙ ap (λ (ds : List Destination). last_place n (map (λ (x : Destination). x.age) ds)) (sym same));
        room = omega (arith, kept.room, length-set a.regions.items r.place (record d { region = l }));
        few = omega (arith, kept.few, length-set a.regions.items r.place (record d { region = l }));
      }

-- what does not fit does not fit together with more
pub wants-more : (b : Buffers) (age words more : ℕ) → words ≤ more → wants_region b age words ≡ true → wants_region b age more ≡ true
wants-more b age words more le wants = by (open_place b age) wants
  where
    fit : (used : ℕ) (x y : Bool) → leb (used + words) b.shape.words ≡ x → leb (used + more) b.shape.words ≡ y → not x ≡ true → not y ≡ true
    fit used true y e f wants = absurd (false≢true wants)
    fit used false false e f wants = refl
    fit used false true e f wants = absurd (omega (arith, leb-false (used + words) b.shape.words e, leb-true (used + more) b.shape.words f, le))

    by : (o : Option ℕ) → not (fits_at b words o) ≡ true → not (fits_at b more o) ≡ true
    by None wants = refl
    by (Some p) wants =
        fit (land_at b p).used (leb ((land_at b p).used + words) b.shape.words) (leb ((land_at b p).used + more) b.shape.words) refl refl wants

-- how many words are reserved
pub reserved-words : (a : Inside) (r : Reservation) (words : ℕ) → a.reserved ≡ Some r → reserved_words (buffers_of a) ≡ Some words → r.words ≡ words
reserved-words a r words e is = same_Some r.words words (ap (option_map (λ (s : Reservation). s.words)) (sym e) ∙ is)

-- a region of the heap without objects is one of these
pub fresh : (b : Buffers) (age : ℕ) (l : Land) → age ≤ 24 → l.number < b.shape.regions → length l.words ≡ b.shape.words → l.starts ≡ [] → l.used ≡ 0
    → IsDestination b.shape (record { age = age; region = l })
fresh b age l least number words starts used = record {
  age = least;
  number = number;
  words = words;
  land = record {
    laid = subst (λ ss. Laid l.words 0 ss l.used) (sym starts) zero-le;
    within = omega (arith, used);
  };
  no_gaps = subst (λ ss. HaveNoGaps l.words 0 ss l.used) (sym starts) (sym used);
}

-- no region yet
pub kept-none : (a : Inside) → a.regions.items ≡ [] → a.room ≤ deque_capacity a.regions → length a.last ≡ 25 → ((n : ℕ) → n ≤ 24 → get_or a.last n None ≡ None)
    → a.taken ≡ 0 → a.reserved ≡ None → a.room < 2 ^ 32 → AreKept a
unfolding last_place
kept-none a items capacity ages last taken reserved few =
    let none_left : length a.regions.items ≡ 0 = ap (λ (ds : List Destination). length ds) items in
    record {
      buffers = subst (λ (ds : List Destination). IsBuffers (record { shape = a.geometry; regions = ds; reserved = a.reserved; room = a.room })) (sym items)
          (subst (λ (r : Option Reservation). IsBuffers (record { shape = a.geometry; regions = []; reserved = r; room = a.room })) (sym reserved)
          (IsBuffers-none a.geometry a.room));
      ages = ages;
      last = λ n le. ap (left_place a.taken) (last n le) ∙ sym (ap (λ (ds : List Destination). last_place n (map (λ (x : Destination). x.age) ds)) items);
      room = omega (arith, capacity, none_left);
      few = omega (arith, few, taken, none_left);
    }
