-- RULES AF16. A row a case: what the check says of small memories, one change each from a sound one. The tables have
-- one or two buckets, the seed is 7, the list pages have 24 bytes, the mark area 8, all 255 before.
use Rattle.std.specs.Prelude.{ℕ, ◌*◌, ◌≡◌, refl, false, List, [], ◌∷◌, ◌++◌, length, replicate}
use Rattle.limits.specs.Refusals.{Said, answered, refused, sound, a_fault, wrong_count}
use Rattle.expull_header.specs.declared.Header.{Header}
use Rattle.store_state.specs.declared.State.{State}
use Rattle.store_look.specs.Look.{lent}
use Rattle.records.specs.Record.{record_bytes}
use Rattle.brownout_faults.specs.Check.{Out, check_of}
use Rattle.brownout_faults.specs.Said.{said_checked}

abbrev state_of : ℕ → ℕ → ℕ → State
state_of buckets keys key_bytes = record {
  seed = 7;
  words = 2 * buckets;
  key_bytes = key_bytes;
  list_bytes = 24;
  buckets = buckets;
  back = false;
  keys = keys;
  key_arena = record { page = 0; used = key_bytes; size = 65536 };
  list_arena = record { page = 0; used = 24; size = 65536 };
}

-- the link behind the first block of 8 bytes leads into that block
abbrev list_pages : List ℕ
list_pages = replicate 8 0 ++ (4 ∷ replicate 15 0)

abbrev full : ℕ → ℕ → ℕ → Header
full number head tail = record { number = number; head = head; tail = tail; remaining = 0 }

-- one block of 8 bytes, full
abbrev eight : Header
eight = full 3 0 8

abbrev record_a : Header → List ℕ
record_a h = record_bytes (65 ∷ []) h

abbrev record_c : Header → List ℕ
record_c h = record_bytes (67 ∷ []) h

abbrev hash_a : ℕ
hash_a = 1588903577

abbrev hash_c : ℕ
hash_c = 2965450094

abbrev checked_of : ℕ → ℕ → List ℕ → List ℕ → Out
checked_of buckets keys table keyPages =
    check_of (state_of buckets keys (length keyPages)) (lent table keyPages list_pages) (replicate 8 255)

-- what is said of a table of so many buckets and keys
abbrev says : ℕ → ℕ → List ℕ → List ℕ → Said
says buckets keys table keyPages = said_checked (checked_of buckets keys table keyPages).answer

-- and of lane A alone, with a header
abbrev says_a : Header → Said
says_a h = says 1 1 (0 ∷ hash_a ∷ []) (record_a h)

-- RULES AF16. Each fault, and what comes before another: a bad block before a wrong tail, a fault before the key count
pub said-checked : (says_a eight ≡ answered sound [])
    × (says 1 0 (0 ∷ hash_a ∷ []) (record_a eight) ≡ answered wrong_count [])
    × (says 1 1 (5 ∷ hash_a ∷ []) (record_a eight) ≡ answered a_fault (0 ∷ 1 ∷ []))
    × (says 2 2 (0 ∷ hash_a ∷ 0 ∷ hash_a ∷ []) (record_a eight) ≡ answered a_fault (1 ∷ 2 ∷ []))
    × (says 1 1 (0 ∷ 0 ∷ []) (record_a eight) ≡ answered a_fault (0 ∷ 3 ∷ []))
    × (says_a (full 2 0 8) ≡ answered a_fault (0 ∷ 4 ∷ []))
    × (says_a (full 3 13 8) ≡ answered a_fault (0 ∷ 5 ∷ []))
    × (says_a (full 3 0 7) ≡ answered a_fault (0 ∷ 6 ∷ []))
    × (says_a (full 4 0 20) ≡ answered a_fault (0 ∷ 7 ∷ []))
    × (says 2 2 (0 ∷ hash_a ∷ 19 ∷ hash_c ∷ []) (record_a eight ++ record_c eight) ≡ answered a_fault (1 ∷ 7 ∷ []))
    × (says 1 0 (0 ∷ 0 ∷ []) (record_a eight) ≡ answered a_fault (0 ∷ 3 ∷ []))
unfolding record_bytes check_of
said-checked = (refl, refl, refl, refl, refl, refl, refl, refl, refl, refl, refl)

-- RULES AF16. A broken record in bucket 1, met on the way to lane C in bucket 0: the fault is that of bucket 0
pub said-on_the_way : says 2 2 (0 ∷ hash_c ∷ 5 ∷ hash_c ∷ []) (record_c eight) ≡ answered a_fault (0 ∷ 3 ∷ [])
unfolding record_bytes check_of
said-on_the_way = refl

-- RULES AF16. The mark area afterwards: zero, a fault or none; as it was after a refusal, which tells the bytes needed
pub marks_left : ((checked_of 1 1 (0 ∷ hash_a ∷ []) (record_a eight)).marks ≡ replicate 8 0)
    × ((checked_of 1 1 (0 ∷ 0 ∷ []) (record_a eight)).marks ≡ replicate 8 0)
    × (says 1 1 (0 ∷ hash_a ∷ []) (record_a eight ++ replicate 22 0) ≡ refused 8 (9 ∷ []))
    × ((checked_of 1 1 (0 ∷ hash_a ∷ []) (record_a eight ++ replicate 22 0)).marks ≡ replicate 8 255)
    × (says 1 2 (0 ∷ hash_a ∷ []) (record_a eight) ≡ refused 2 [])
    × ((checked_of 1 2 (0 ∷ hash_a ∷ []) (record_a eight)).marks ≡ replicate 8 255)
unfolding record_bytes check_of
marks_left = (refl, refl, refl, refl, refl, refl)
