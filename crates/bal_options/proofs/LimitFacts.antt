-- The limits of each configuration of a command line.
use Rattle.std.proofs.Common.{◌/◌, ℕ, List, ap, arith, min}
use Rattle.bal_model.specs.Configs.{IsWithinLimits}
use Rattle.bal_model.specs.declared.config.Config.{Config}
use Rattle.bal_options.specs.CommandLine.{IsCommandLine, number_given, regions_of}
use Rattle.bal_options.specs.declared.setting.Setting.TheVariants as setting
use Rattle.bal_options.proofs.ConfigFacts.{between}
use Rattle.bal_options.proofs.LineFacts.{each-in_range}

pub within-limits : (words : List (List ℕ)) (c : Config) → IsCommandLine words c → IsWithinLimits c
within-limits words c is =
    let regions = between (number_given is.givens setting.Regions) 4 2047 64 4 2047 (each-in_range words c is setting.Regions) (omega arith) (omega arith) (omega arith) (omega arith) in
    let sizes = between (number_given is.givens setting.Words) 256 65536 1024 256 65536 (each-in_range words c is setting.Words) (omega arith) (omega arith) (omega arith) (omega arith) in
    let number_of_regions = ap (λ (d : Config). d.geometry.regions) is.gives in
    let eden = between (number_given is.givens setting.Eden) 1 (c.geometry.regions / 2) (min 8 (regions_of (number_given is.givens) / 2)) 1 (c.geometry.regions / 2)
    (each-in_range words c is setting.Eden) (omega arith) (omega (arith, regions.0)) (omega arith) (omega (arith, number_of_regions)) in
    let older = between (number_given is.givens setting.Older) 0 64 2 0 64 (each-in_range words c is setting.Older) (omega arith) (omega arith) (omega arith) (omega arith) in
    let cards = between (number_given is.givens setting.Cards) 1 1024 64 1 1024 (each-in_range words c is setting.Cards) (omega arith) (omega arith) (omega arith) (omega arith) in
    let workers = between (number_given is.givens setting.Workers) 1 32 4 1 32 (each-in_range words c is setting.Workers) (omega arith) (omega arith) (omega arith) (omega arith) in
    let mark_every = between (number_given is.givens setting.MarkEvery) 1 1000 4 1 1000 (each-in_range words c is setting.MarkEvery) (omega arith) (omega arith) (omega arith) (omega arith) in
    let mark_step = between (number_given is.givens setting.MarkStep) 1 1000000 256 1 1000000 (each-in_range words c is setting.MarkStep) (omega arith) (omega arith) (omega arith) (omega arith) in
    record {
      geometry = record {
        fewest_regions = omega (arith, regions.0, number_of_regions);
        most_regions = omega (arith, regions.1, number_of_regions);
        fewest_words = rw (ap (λ (d : Config). d.geometry.words) is.gives) sizes.0;
        most_words = rw (ap (λ (d : Config). d.geometry.words) is.gives) sizes.1;
        power_of_two = is.power_of_two;
        words_in_all = is.words_in_all;
      };
      eden = rw (ap (λ (d : Config). d.eden) is.gives) eden;
      older = rw (ap (λ (d : Config). d.older) is.gives) older;
      cards = rw (ap (λ (d : Config). d.cards) is.gives) cards;
      workers = rw (ap (λ (d : Config). d.workers) is.gives) workers;
      mark_every = rw (ap (λ (d : Config). d.mark_every) is.gives) mark_every;
      mark_step = rw (ap (λ (d : Config). d.mark_step) is.gives) mark_step;
      abort_after = rw (ap (λ (d : Config). d.abort_after) is.gives) (each-in_range words c is setting.AbortAfter);
    }
