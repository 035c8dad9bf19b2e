-- A row a case: what each of these calls says in document 01's terms, on a store over twice 64 bytes in pages of 65,536
-- that holds lane A alone, three bytes in it, where all memory held 7s. Each row is worked out from the definitions
-- that the contracts cite; that an append leaves just this store is a row of the crate store.
use Rattle.std.specs.Prelude.{ℕ, ◌≡◌, refl, false, List, [], ◌∷◌, replicate}
use Rattle.limits.specs.Refusals.{answered, refused, a_place, absent, a_length, a_reading, a_block}
use Rattle.limits.specs.Refusals.{no_such_block, a_bucket, no_bucket, a_count}
use Rattle.spans.specs.Span.{overwrite}
use Rattle.murmurhash2.specs.Murmur.{murmur_hash2}
use Rattle.shared_arena_hashmap.specs.declared.Met.TheVariants.{Standing, Damaged}
use Rattle.expull_header.specs.Header.{header_bytes}
use Rattle.store_state.specs.declared.State.{State}
use Rattle.store_look.specs.Said.{said_lookup, said_answer, said_listed, said_counted}
use Rattle.store_look.specs.Look.{Lent, lent, walk_of, lookup_of, length_of, read_of, find_block_of, next_of, count_of}

abbrev pub sevens : ℕ → List ℕ
sevens n = replicate n 7

abbrev pub lane_a : List ℕ
lane_a = 65 ∷ []

abbrev pub lane_b : List ℕ
lane_b = 66 ∷ []

-- lane A's record: the name's length, the name, and the header of a list of one block with 5 of its 8 bytes left
abbrev pub record_a_lem : List ℕ
record_a_lem = 1 ∷ 0 ∷ 65 ∷ header_bytes (record { number = 3; head = 0; tail = 3; remaining = 5 })

-- the state over so many words: a table of one bucket, a record of 19 bytes, a block of 12
abbrev pub holding : ℕ → State
holding words = record {
  seed = 0;
  words = words;
  key_bytes = 64;
  list_bytes = 64;
  buckets = 1;
  back = false;
  keys = 1;
  key_arena = record { page = 0; used = 19; size = 65536 };
  list_arena = record { page = 0; used = 12; size = 65536 };
}

-- and the memory
abbrev pub held : ℕ → Lent
held words =
    lent (overwrite 0 (0 ∷ murmur_hash2 0 lane_a ∷ []) (sevens words)) (overwrite 0 record_a_lem (sevens 64))
    (overwrite 0 (1 ∷ 2 ∷ 3 ∷ []) (sevens 64))

abbrev pub one : State
one = holding 18

abbrev pub lent_one : Lent
lent_one = held 18

-- the same with its record's length bytes overwritten, so that the record is no good span
abbrev pub broken : Lent
broken = lent lent_one.table (overwrite 0 (255 ∷ 255 ∷ []) lent_one.keys) lent_one.lists

-- RULES X7.
pub said-looked : (said_lookup (lookup_of one lent_one lane_a) ≡ answered a_place (0 ∷ []))
    × (said_lookup (lookup_of one lent_one lane_b) ≡ answered absent [])
    × (said_lookup (lookup_of one (lent [] [] []) lane_a) ≡ refused 2 [])
    × (said_lookup (lookup_of one lent_one (sevens 65519)) ≡ refused 3 [])
    × (said_lookup (lookup_of one lent_one []) ≡ answered absent [])
    × (said_lookup (lookup_of one broken lane_a) ≡ refused 4 [])
unfolding lookup_of header_bytes overwrite
said-looked = (refl, refl, refl, refl, refl, refl)

-- RULES X7.
pub said_answered : (said_answer (length_of one lent_one lane_a) ≡ answered a_length (3 ∷ []))
    × (said_answer (length_of one lent_one lane_b) ≡ answered absent [])
    × (said_answer (length_of one broken lane_a) ≡ refused 4 [])
    × (said_answer (read_of one lent_one lane_a (sevens 4)).answer ≡ answered a_reading (3 ∷ []))
    × (said_answer (read_of one lent_one lane_a (sevens 2)).answer ≡ refused 8 (3 ∷ []))
    × (said_answer (find_block_of one lent_one lane_a 0) ≡ answered a_block (0 ∷ 3 ∷ []))
    × (said_answer (find_block_of one lent_one lane_a 1) ≡ answered no_such_block [])
unfolding length_of read_of find_block_of header_bytes overwrite
said_answered = (refl, refl, refl, refl, refl, refl, refl)

-- RULES X7.
pub said_listed_lem : (said_listed (next_of one lent_one 0) ≡ answered a_bucket (0 ∷ 0 ∷ []))
    × (said_listed (next_of one lent_one 1) ≡ answered no_bucket [])
    × (said_listed (next_of one broken 0) ≡ refused 4 [])
    × (said_counted (count_of one lent_one) ≡ answered a_count (1 ∷ []))
    × (said_counted (count_of one (lent [] [] [])) ≡ refused 2 [])
unfolding next_of count_of header_bytes overwrite
said_listed_lem = (refl, refl, refl, refl, refl)

-- a memory that somebody else wrote: where a lookup of the empty name would start stands a record of that name, or one
-- with other length bytes, which is no good span
abbrev older : List ℕ → Lent
older size = lent (overwrite 1 (0 ∷ []) lent_one.table) (overwrite 0 size lent_one.keys) lent_one.lists

abbrev pub nameless : Lent
nameless = older (0 ∷ 0 ∷ [])

abbrev pub nameless_broken : Lent
nameless_broken = older (255 ∷ 255 ∷ [])

-- RULES V1, X7. Neither is looked at: by the empty name every lane is absent
pub said-nameless : ((walk_of one nameless []).met ≡ Standing 0)
    × (said_lookup (lookup_of one nameless []) ≡ answered absent [])
    × (said_answer (length_of one nameless []) ≡ answered absent [])
    × (said_answer (read_of one nameless [] []).answer ≡ answered absent [])
    × (said_answer (find_block_of one nameless [] 0) ≡ answered absent [])
    × ((walk_of one nameless_broken []).met ≡ Damaged)
    × (said_lookup (lookup_of one nameless_broken []) ≡ answered absent [])
unfolding lookup_of length_of read_of find_block_of header_bytes overwrite
said-nameless = (refl, refl, refl, refl, refl, refl, refl)
