-- RULES AD9. A row a case, over the store of lane_pieces' rows: lane A has the bytes 1 to 9, in a block of 8 at address
-- 0 and one of 16 at address 12; 32 list bytes are used.
use Rattle.std.specs.Prelude.{ℕ, ◌≡◌, refl, List, [], ◌∷◌}
use Rattle.store_create.specs.Create.{create_of}
use Rattle.store_append.specs.Append.{append_of}
use Rattle.lane_pieces.specs.declared.Pieced.TheVariants.{Given, Refused}
use Rattle.lane_pieces.specs.Cases.{sevens, nine, lent_nine}
use Rattle.lane_places.specs.declared.Place.{Place}
use Rattle.lane_places.specs.PieceOn.{beginning, Out, piece_on_of}

abbrev place : ℕ → ℕ → ℕ → Place
place i b n = record { index = i; block = b; given = n }

abbrev on_of_a : Place → List ℕ → Out
on_of_a p output = piece_on_of nine lent_nine (65 ∷ []) p output

-- RULES AD9. From the first place, then from the one handed back; the first block's address doesn't matter; at the
-- end; one byte before it; a count that doesn't go with its index, twice; an address that is no block's; an output of 0
-- bytes.
pub on_cases : ((on_of_a beginning (sevens 4)).answer ≡ Given 4)
    × ((on_of_a beginning (sevens 4)).place ≡ place 0 0 4)
    × ((on_of_a beginning (sevens 4)).output ≡ 1 ∷ 2 ∷ 3 ∷ 4 ∷ [])
    × ((on_of_a (place 0 99 4) (sevens 6)).answer ≡ Given 5)
    × ((on_of_a (place 0 99 4) (sevens 6)).place ≡ place 1 12 9)
    × ((on_of_a (place 0 99 4) (sevens 6)).output ≡ 5 ∷ 6 ∷ 7 ∷ 8 ∷ 9 ∷ 7 ∷ [])
    × ((on_of_a (place 1 12 9) (sevens 1)).answer ≡ Given 0)
    × ((on_of_a (place 1 12 9) (sevens 1)).place ≡ place 1 12 9)
    × ((on_of_a (place 1 12 8) (sevens 1)).output ≡ 9 ∷ [])
    × ((on_of_a (place 1 12 7) (sevens 1)).answer ≡ Refused 2 0)
    × ((on_of_a (place 0 0 9) (sevens 1)).answer ≡ Refused 2 0)
    × ((on_of_a (place 1 13 8) (sevens 1)).answer ≡ Refused 4 0)
    × ((on_of_a beginning []).answer ≡ Refused 8 9)
unfolding create_of append_of piece_on_of
on_cases = (refl, refl, refl, refl, refl, refl, refl, refl, refl, refl, refl, refl, refl)
