use Rattle.std.proofs.Common.{◌+◌, ◌≤◌, ◌∙◌, Some, ap, arith, subst, sym}
use Rattle.bal_layout.specs.Addresses.{IsAddress, address_in}
use Rattle.bal_dest.specs.Buffers.{Buffers, end_of, land_at, open_place, wants_region}
use Rattle.bal_dest.specs.Kept.{buffers_of}
use Rattle.bal_dest.specs.declared.buffers.Destination.{Destination}
use Rattle.bal_dest.proofs.Packed.{open-last}
use Rattle.bal_dest.proofs.Held.{kept-reserved, open-number, open-read, open-within, room-left}
use Rattle.bal_dest.proofs.buffers.Buffers.reserve.Goals as goal

pub index-requires : goal.index-requires
index-requires c =
    let open_is = ap (λ (b : Buffers). open_place b c.args.age) c.self.view_is ∙ (sym c.open_place.ensures.place ∙ c.in-Some.is) in
    open-within c.self.inside c.self.invariant c.args.age c.in-Some.place open_is

pub address-address-requires-clause-region : goal.address-address-requires-clause-region
address-address-requires-clause-region c =
    let open_is = ap (λ (b : Buffers). open_place b c.args.age) c.self.view_is ∙ (sym c.open_place.ensures.place ∙ c.in-Some.is) in
    let there = open-read c.self.inside c.self.invariant c.args.age c.in-Some.place c.index.result.now open_is c.index.ensures in
    omega (arith, c.number.ensures ∙ ap (λ (d : Destination). d.region.number) there, open-number c.self.inside c.self.invariant c.args.age c.in-Some.place open_is)

pub address-address-requires-clause-offset : goal.address-address-requires-clause-offset
address-address-requires-clause-offset c =
    let open_is = ap (λ (b : Buffers). open_place b c.args.age) c.self.view_is ∙ (sym c.open_place.ensures.place ∙ c.in-Some.is) in
    let there = open-read c.self.inside c.self.invariant c.args.age c.in-Some.place c.index.result.now open_is c.index.ensures in
    let fits = ap (λ (b : Buffers). wants_region b c.args.age c.args.words) c.self.view_is ∙ c.requires.fits in
    omega (
      arith,
      c.used.ensures.number ∙ ap (λ (d : Destination). d.region.used) there,
      c.requires.some,
      room-left c.self.inside c.self.invariant c.args.age c.in-Some.place c.args.words open_is fits,
    )

pub invariant_of-self : goal.invariant_of-self
invariant_of-self c =
    let open_is = ap (λ (b : Buffers). open_place b c.args.age) c.self.view_is ∙ (sym c.open_place.ensures.place ∙ c.in-Some.is) in
    let fits = ap (λ (b : Buffers). wants_region b c.args.age c.args.words) c.self.view_is ∙ c.requires.fits in
    kept-reserved c.self.inside c.self.invariant c.args.age c.in-Some.place c.args.words open_is fits

pub returns : goal.returns
returns c =
    let a = c.self.inside in
    let place = c.in-Some.place in
    let open_is = ap (λ (b : Buffers). open_place b c.args.age) c.self.view_is ∙ (sym c.open_place.ensures.place ∙ c.in-Some.is) in
    let there = open-read a c.self.invariant c.args.age place c.index.result.now open_is c.index.ensures in
    let number = c.number.ensures ∙ ap (λ (d : Destination). d.region.number) there in
    let used = c.used.ensures.number ∙ ap (λ (d : Destination). d.region.used) there in
    let address = c.address-address.ensures.address
    ∙ (ap (λ n. address_in a.geometry n c.used.result) number ∙ ap (address_in a.geometry (land_at (buffers_of a) place).number) used) in
    let open_now = sym c.open_place.ensures.place ∙ c.in-Some.is in
    let last = open-last c.args.self.now c.args.age place open_now in
    let fits = ap (λ (b : Buffers). wants_region b c.args.age c.args.words) c.self.view_is ∙ c.requires.fits in
    record {
      place = place;
      open_is = open_now;
      held = last.0;
      age_is = last.1;
      fits = subst (λ (b : Buffers). (land_at b place).used + c.args.words ≤ b.shape.words) c.self.view_is
          (room-left a c.self.invariant c.args.age place c.args.words open_is fits);
      exact = ap (λ (b : Buffers). record b { reserved = Some (record { place = place; words = c.args.words }) }) c.self.view_is;
      address_is = address ∙ ap (λ (b : Buffers). end_of b place) c.self.view_is;
      within = subst (λ (b : Buffers). IsAddress b.shape c.address-address.result) c.self.view_is c.address-address.ensures.within;
    }
