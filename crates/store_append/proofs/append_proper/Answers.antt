-- The lookup, then what it met; its walk is told beside the answer. Assumes nothing.
use Rattle.std.proofs.Common.{sym, ap}
use Rattle.shared_arena_hashmap.specs.declared.Walk.{Walk}
use Rattle.store_append.proofs.append_proper.Goals as goal

pub walk_hashed-w-requires : goal.walk_hashed-w-requires
walk_hashed-w-requires c = (c.requires.0, c.murmurhash2-hash.ensures)

pub append_met-answer-requires : goal.append_met-answer-requires
append_met-answer-requires c = record {
  whole = c.requires.0;
  proper = c.requires.1;
  hashed = c.murmurhash2-hash.ensures;
  walk = sym c.walk_hashed-w.ensures;
}

pub returns : goal.returns
returns c = record {
  settled = rw (← c.walk_hashed-w.ensures) c.append_met-answer.ensures;
  walked = ap (λ (v : Walk). v.looked) c.walk_hashed-w.ensures;
}
