-- The lemmas of this crate that others cite. Its other modules of proofs are its own.

-- All that lies on a board lies in its regions, after each event.
pub use Rattle.bal_rules.proofs.BoardsInRange.{IsSpotWithin, all-below, each-in, each-placed, free-below, packed-within, range-below, spot-within}
-- No event that may come before a row's own one takes away what is held: the board stays sound.
pub use Rattle.bal_rules.proofs.Collections.{dead-unreached, keeping, kept-ascends, kept-walked, moved-name, reachable-present, repacked-name, sound-global, swept-unreached, unreached-dead, walked-kept}
-- Names that ascend are distinct. So if each of them is in a list that is no longer, the list has no others.
pub use Rattle.bal_rules.proofs.Distinct.{before-other, distinct-ascending, packed-survive, same-laws}
-- What holds of each item of a list: after changes of the list, and in its parts.
pub use Rattle.bal_rules.proofs.Each.{each-append, each-at, each-both, each-filter, each-from_map, each-goes, each-map, each-replicate, each-set}
-- After a global collection there is room for a request, or the heap may be called full.
pub use Rattle.bal_rules.proofs.FullAfterGlobal.{full-after}
-- Lists of names and of placed objects: order, filters, and what is among them.
pub use Rattle.bal_rules.proofs.ListFacts.{all-among, among-placed-filter, ascending-after, ascending-filter, ascending-rest, before-cases, ends-ascend, made-among, names_placed-filter, names_placed-map, not-empty}
-- The objects of a graph keep to their ranges where the rows do.
pub use Rattle.bal_rules.proofs.ObjectsInRange.{mutator-in-range}
-- What the events of a path are: the row's own event is of three kinds and executes the row, and no event before it executes
-- one.
pub use Rattle.bal_rules.proofs.PathFacts.{IsReallyFull, executed-append, executed-legal, legal-no-row, own-event, path-executes}
-- A row's own event keeps the board sound: what it makes is new, and what it moves was held before.
pub use Rattle.bal_rules.proofs.RowsSound.{AreHeld, Holds-from, ascending-placed, graph-row, held-global, held-reference, held-register}
-- How a run grows, and what it says of the threads' rows.
pub use Rattle.bal_rules.proofs.RunFacts.{IsRun-more, IsWholeRun-more, IsWholeRun-none, board_of-more, done_by-more}
-- The ranges of what stands on the board, after every run.
pub use Rattle.bal_rules.proofs.RunsInRange.{filter-shorter, run-done-few, run-executes-few, run-made, run-objects, run-within}
-- After a global collection of a run the row's own event may come.
pub use Rattle.bal_rules.proofs.RunsGoOn.{run-goes-on}
-- After every run the present objects take what they asked for, and all leaves are theirs.
pub use Rattle.bal_rules.proofs.RunsOccupied.{run-occupied}
-- What holds after every run: what the empty journal has, and each event keeps.
pub use Rattle.bal_rules.proofs.RunsSound.{IsTurn, graph-legal, journal-keeps, run-sound, thread-of, turn-has}
