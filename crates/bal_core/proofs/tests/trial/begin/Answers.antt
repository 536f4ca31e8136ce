use Rattle.std.proofs.Common.{[], ◌∷◌, subst, sym}
use Rattle.bal_core.specs.Start.{MayStart}
use Rattle.bal_core.specs.Trials.{words_of_trial}
use Rattle.bal_core.proofs.Trials.{graph_of, may-start, small}
use Rattle.bal_core.proofs.tests.trial.begin.Goals as goal

pub core_start-requires : goal.core_start-requires
core_start-requires c =
    subst (λ shape. MayStart shape (graph_of c.in_ok-trial.trial.count c.in_ok-trial.trial.words.items c.in_ok-trial.trial.held) (0 ∷ []) c.args.pool.now 2)
    (sym c.in_ok-geometry.ensures.1)
    (subst (λ n. MayStart small (graph_of n c.in_ok-trial.trial.words.items c.in_ok-trial.trial.held) (0 ∷ []) c.args.pool.now 2) (sym c.in_ok-trial.ensures.0)
    (subst (λ words. MayStart small (graph_of c.args.count words c.in_ok-trial.trial.held) (0 ∷ []) c.args.pool.now 2) (sym c.in_ok-trial.ensures.1)
    (subst (λ x. MayStart small (graph_of c.args.count words_of_trial x) (0 ∷ []) c.args.pool.now 2) (sym c.in_ok-trial.ensures.2)
    (may-start c.args.count c.args.held c.args.pool.now c.requires.some c.requires.held c.requires.regions c.requires.distinct))))
