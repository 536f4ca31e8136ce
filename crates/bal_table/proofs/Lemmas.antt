-- The lemmas of this crate that others cite. Its other modules of proofs are its own.

-- A table of which one object is moved to another region.
pub use Rattle.bal_table.proofs.Carried.{IsTable-carried, carried-free, carried-region, thing-carried, used-elsewhere, used-there, words-carried, words-found}
-- Which objects of a table a change touches.
pub use Rattle.bal_table.proofs.Changed.{thing-beside, thing-free, thing-gone, thing-none, thing-numbered, thing-placed, thing-referred}
-- A table of which one region is cut.
pub use Rattle.bal_table.proofs.Cut.{IsTable-cut, cut-at, cut-behind, cut-elsewhere, things-cut, words-cut}
-- Marked addresses: one more of them, and which wait in the queue.
pub use Rattle.bal_table.proofs.Marking.{IsMarked-more, address-known, address-new, in-end, in-marked, in-other, marked-after, marked-few, next-order, queue-first, queue-none}
-- Where moved objects went: one more move.
pub use Rattle.bal_table.proofs.Forwarded.{IsForwarding-more, IsForwarding-none, moved-from, moved-none, moved-others, moved-own}
-- Marked addresses after some objects are gone and others have moved.
pub use Rattle.bal_table.proofs.Remapping.{IsMarked-remapped, filter-among, in-remapped, remapped-queue}
-- Addresses, the regions and offsets that they stand for, and the words after them.
pub use Rattle.bal_table.proofs.Places.{address-is, address-offset, address-region, address-within, offset-within}
-- The objects of a table, by their addresses.
pub use Rattle.bal_table.proofs.Seen.{apart, object-region, object-within, objects-at, seen, seen-refs, start-address, start-inside}
-- Where the slots of an object lie.
pub use Rattle.bal_table.proofs.SlotWords.{LiesAt, found-below, missing-past, number-lies, reference-lies, reference-there, value_found-is, value_found-none, word-region}
-- A table of which one object is moved down in its region.
pub use Rattle.bal_table.proofs.Slid.{IsTable-slid, may-move, slid-free, thing-slid, used-slid, words-slid}
-- A new table is one, and stays one after each change.
pub use Rattle.bal_table.proofs.Tables.{IsTable-current, IsTable-empty, IsTable-freed, IsTable-placed, IsTable-role, IsTable-written}
-- Slots by the places at which they lie, and the objects that have them.
pub use Rattle.bal_table.proofs.SlotPlaces.{Lies, card-ascends, card-both, card-contains, card-place, slot-lies_at, slot-region, slot-thing, thing-slot}
-- Which slots were visited, from region to region and from object to object.
pub use Rattle.bal_table.proofs.SlotsVisited.{Before, next-after, next-first, next-here, next-inside, none-after, slot-below, slot-within}
-- A table with zeros in its free regions, and what a free region is.
pub use Rattle.bal_table.proofs.Vacant.{IsOccupied-vacated, IsTable-vacated, free-numbered, land-vacated, lands-vacated, objects-vacated, state-free, vacant}
