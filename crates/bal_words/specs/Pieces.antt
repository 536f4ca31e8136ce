-- What the words of one object say.
use Rattle.std.specs.Prelude.{ℕ, ◌+◌, List, [], Option, take, drop, slice_index}
use Rattle.bal_layout.specs.declared.header.Header.{Header}
use Rattle.bal_layout.specs.declared.name.Kind.{Kind}
use Rattle.bal_layout.specs.declared.name.Kind.TheVariants.{Plain, Array, Spine}
use Rattle.bal_layout.specs.Header.{header_of}
use Rattle.bal_words.specs.Things.{Thing}

-- an object in one piece has its references behind its header and its name, and its numbers behind them
abbrev pub piece : Header → List ℕ → Thing
piece h words = record {
  name = h.name;
  kind = h.kind;
  refs = take h.refs (drop 2 words);
  values = take h.values (drop (2 + h.refs) words);
}

-- a spine's references are the words of its leaves, one leaf behind the other, as far as it has slots
abbrev pub spine : Header → List ℕ → Thing
spine h leaf_words = record { name = h.name; kind = h.kind; refs = take h.refs leaf_words; values = [] }

-- the object of this header whose own words are these, and whose leaves, where it is a spine, have those
abbrev pub thing_of_kind : Kind → Header → List ℕ → List ℕ → Thing
thing_of_kind Plain h words leaf_words = piece h words
thing_of_kind Array h words leaf_words = piece h words
thing_of_kind Spine h words leaf_words = spine h leaf_words

abbrev pub thing_of : Header → List ℕ → List ℕ → Thing
thing_of h words leaf_words = thing_of_kind h.kind h words leaf_words

-- the header with which an object's words begin
abbrev pub header_in : List ℕ → Option Header
header_in words = header_of (slice_index words 0) (slice_index words 1)
