-- RULES AD7, X7. A row a case: what pieces say of a store of 18 words and twice 64 bytes, where all memory held 7s,
-- with lane A and the bytes 1 to 9. They lie in two blocks, the first of 8 bytes at place 0 with its link at 8.
use Rattle.std.specs.Prelude.{ℕ, ◌≡◌, refl, List, [], ◌∷◌, replicate}
use Rattle.limits.specs.Refusals.{answered, refused, absent, a_piece}
use Rattle.spans.specs.Span.{overwrite}
use Rattle.store_state.specs.declared.State.{State}
use Rattle.store_append.specs.declared.Appended.{Appended}
use Rattle.store_append.specs.declared.Appended.TheVariants.{Accepted, Declined}
use Rattle.store_create.specs.Create.{fresh_state, create_of}
use Rattle.store_look.specs.Look.{Lent, lent, read_of}
use Rattle.store_look.specs.Said.{said_answer}
use Rattle.store_append.specs.Append.{Out as Outcome, append_of}
use Rattle.lane_pieces.specs.Piece.{Out, block_holding, blocks_met, piece_of}
use Rattle.lane_pieces.specs.Said.{said_pieced}

abbrev pub sevens : ℕ → List ℕ
sevens n = replicate n 7

abbrev pub state_of : Appended → State
state_of (Accepted st) = st
state_of (Declined st n) = st

abbrev pub appended : Outcome
appended =
    append_of (fresh_state 0 65536 18 64 64 1)
    (lent (create_of 1 0 65536 (sevens 18) 64 64).table (sevens 64) (sevens 64)) (65 ∷ [])
    (1 ∷ 2 ∷ 3 ∷ 4 ∷ 5 ∷ 6 ∷ 7 ∷ 8 ∷ 9 ∷ [])

abbrev pub nine : State
nine = state_of appended.answer

abbrev pub lent_nine : Lent
lent_nine = appended.memory

-- the same with the first block's link overwritten, so that the second block is no good span; and with its header's
-- last byte overwritten, which is damage
abbrev unlinked : Lent
unlinked = lent lent_nine.table lent_nine.keys (overwrite 8 (255 ∷ []) lent_nine.lists)

abbrev headless : Lent
headless = lent lent_nine.table (overwrite 18 (1 ∷ []) lent_nine.keys) lent_nine.lists

abbrev piece_of_a : Lent → ℕ → List ℕ → Out
piece_of_a m given output = piece_of nine m (65 ∷ []) given output

-- RULES AD2. Blocks hold 8, 16, 32 .. bytes: byte 7 lies in block 0, byte 8 in block 1, byte 24 in block 2. A piece
-- meets the blocks up to its last byte's, and none where it gives no byte.
pub met_cases : (block_holding 7 ≡ 0) × (block_holding 8 ≡ 1) × (block_holding 23 ≡ 1) × (block_holding 24 ≡ 2)
    × (blocks_met 0 8 ≡ 1) × (blocks_met 0 9 ≡ 2) × (blocks_met 7 1 ≡ 1) × (blocks_met 8 1 ≡ 2) × (blocks_met 8 0 ≡ 0)
unfolding blocks_met
met_cases = (refl, refl, refl, refl, refl, refl, refl, refl, refl)

-- RULES AD7.
pub said_pieced_lem : (said_pieced (piece_of_a lent_nine 0 (sevens 4)).answer ≡ answered a_piece (4 ∷ []))
    × ((piece_of_a lent_nine 0 (sevens 4)).output ≡ 1 ∷ 2 ∷ 3 ∷ 4 ∷ [])
    × (said_pieced (piece_of_a lent_nine 6 (sevens 4)).answer ≡ answered a_piece (3 ∷ []))
    × ((piece_of_a lent_nine 6 (sevens 4)).output ≡ 7 ∷ 8 ∷ 9 ∷ 7 ∷ [])
    × (said_pieced (piece_of_a lent_nine 9 (sevens 1)).answer ≡ answered a_piece (0 ∷ []))
    × (said_pieced (piece_of_a lent_nine 10 (sevens 1)).answer ≡ refused 2 [])
    × (said_pieced (piece_of_a lent_nine 10 []).answer ≡ refused 2 [])
    × (said_pieced (piece_of_a lent_nine 0 []).answer ≡ refused 8 (9 ∷ []))
    × (said_pieced (piece_of nine lent_nine (66 ∷ []) 5 []).answer ≡ answered absent [])
    × (said_pieced (piece_of_a (lent [] [] []) 0 (sevens 1)).answer ≡ refused 2 [])
    × (said_pieced (piece_of_a headless 10 []).answer ≡ refused 4 [])
    × (said_pieced (piece_of_a unlinked 0 (sevens 9)).answer ≡ refused 4 [])
    × ((piece_of_a unlinked 0 (sevens 9)).output ≡ sevens 9)
    × (said_pieced (piece_of_a unlinked 0 (sevens 8)).answer ≡ answered a_piece (8 ∷ []))
    × (said_answer (read_of nine unlinked (65 ∷ []) (sevens 8)).answer ≡ refused 4 [])
unfolding create_of append_of piece_of read_of
said_pieced_lem = (refl, refl, refl, refl, refl, refl, refl, refl, refl, refl, refl, refl, refl, refl, refl)
