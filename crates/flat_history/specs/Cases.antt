-- RULES AH10. A small history in which neither store refuses, so that the theorem is seen to speak of something.
use Rattle.std.specs.Prelude.{refl, List, [], ◌∷◌, replicate}
use Rattle.std.proofs.Common.{lit<}
use Rattle.shared_arena_hashmap.specs.Buckets.{cleared}
use Rattle.store_create.specs.Create.{fresh_state, create_of}
use Rattle.store_look.specs.Look.{lent}
use Rattle.store_append.specs.Append.{append_of}
use Rattle.history.specs.History.{World, Born, Call, appends, looks_up, log_of, asked_for}
use Rattle.flat_store.specs.Calls.{append_of as flat_append_of}
use Rattle.flat_store.specs.History.{flat, log_of as flat_log}
use Rattle.flat_history.specs.Agreement.{Unrefused, FlatUnrefused, WidePages}

-- RULES AH10. A store of one bucket, whose pages have 131,072 bytes, on memory that isn't clear
abbrev pub start : World
start = record {
  state = fresh_state 0 131072 18 64 64 1;
  memory = lent (cleared 0 1 (replicate 18 7)) (replicate 64 7) (replicate 64 7);
}

-- RULES AH10.
pub born : Born 1 0 131072 (replicate 18 7) (replicate 64 7) (replicate 64 7) start
unfolding create_of
born = record { made = refl; keys_lent = refl; lists_lent = refl }

-- RULES AH10. Three bytes to A, a lookup of B, an empty append to B, a byte more to A
abbrev pub calls : List Call
calls =
    appends (65 ∷ []) (1 ∷ 2 ∷ 3 ∷ []) ∷ looks_up (66 ∷ []) ∷ appends (66 ∷ []) [] ∷ appends (65 ∷ []) (4 ∷ []) ∷ []

-- RULES AH10. On that store, and on a flat buffer of 25 bytes, which they just fill
pub unrefused_case : WidePages start
    × (Unrefused calls start × FlatUnrefused (asked_for calls) (flat (replicate 25 7) 0))
unfolding asked_for log_of append_of flat_log flat_append_of cleared
unrefused_case = (lit< tt, (refl, refl))
