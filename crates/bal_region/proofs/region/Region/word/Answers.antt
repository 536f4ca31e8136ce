use Rattle.std.proofs.Common.{◌∙◌, ap, get_or, sym}
use Rattle.std.specs.Option.{unwrap_or}
use Rattle.std.proofs.lemmas.Option.{unwrap_or-slice_get}
use Rattle.bal_region.specs.Land.{Land}
use Rattle.bal_region.proofs.Finds.{item-read}
use Rattle.bal_base.proofs.Lemmas.{get_or-padded}
use Rattle.bal_region.proofs.region.Region.word.Goals as goal

pub returns : goal.returns
returns c =
    let a = c.self.inside in
    let at = c.args.offset in
    let seen = c.deref.result.now in
    c.unwrap_or.ensures
    ∙ (ap (λ o. unwrap_or o 0) (c.copied.ensures ∙ item-read seen at c.get.result c.get.ensures.lookup)
    ∙ (unwrap_or-slice_get seen at 0
    ∙ (ap (λ ws. get_or ws at 0) c.deref.ensures.value
    ∙ (sym (get_or-padded a.room a.words.items at) ∙ ap (λ (l : Land). get_or l.words at 0) c.self.view_is))))
