-- The panel's numbers, from the lane's bytes and the number reader's promises. Assumes nothing.
use Prim.Native.Nat.{ℕ, ◌≤◌}
use mathlib.Core.Path.{◌≡◌, refl, sym, ap, ◌∙◌}
use mathlib.Core.Bool.{Bool}
use mathlib.Core.Option.{none}
use mathlib.Core.List.{List, [], ◌∷◌, ◌++◌, map}
use native.Mathlib.Nat.{le_refl}
use native.Mathlib.Omega.{arith}
use lib.ListN.{length, replicate, length-replicate}
use lib.IntN.{ℤ, pos}
use Rattle.limits.specs.Limits.{fed_limit}
use Rattle.signed.specs.Signed.{difference, stored}
use Rattle.signed.proofs.Laws.{stored-fits, difference-fits}
use Rattle.vint.specs.Vint.{write_vint}
use Rattle.reading_run.specs.Readings.{readings_bytes}
use Rattle.reading_run.proofs.Back.{stored_from, stored_readings}
use Rattle.number_pieces.specs.Feed.{holding, fresh}
use Rattle.number_pieces.specs.Cut.{Piece, HasPlaces, EachHasPlaces, joined as bytes_of, goes_on, got, calls_of}
use Rattle.number_pieces.specs.Promises.{vints_of, Each32}
use Rattle.number_pieces.proofs.Calls.{cut_anywhere, fresh-takes, written_back}
use Rattle.history.specs.History.{World, joined}
use Rattle.history_readings.specs.Steps.{Step, call_of, accepted_for, HandedOn, readings_among}
use Rattle.history_readings.proofs.Joined.{steps-joined, handed_signed, come_to, handed_joined}
use Rattle.history_pieces.specs.Going.{gathered, lane_of}
use Rattle.history_panel.specs.Panel.{PanelReads}

-- ---- readings' bytes are the vints of the numbers that they are stored as

vints_readings : (last : ℤ) (rs : List ℤ) → vints_of (stored_from last rs) ≡ readings_bytes last rs
vints_readings last [] = refl
vints_readings last (r ∷ rs) =
    ap (λ (bs : List ℕ). write_vint (stored (difference last r)) ++ bs) (vints_readings r rs)

stored-each : (last : ℤ) (rs : List ℤ) → Each32 (stored_from last rs)
stored-each last [] = tt
stored-each last (r ∷ rs) = (stored-fits (difference last r) (difference-fits last r), stored-each r rs)

lane_readings : (rs : List ℤ) → lane_of (come_to rs) ≡ readings_bytes (pos 0) rs
lane_readings [] = refl
lane_readings (r ∷ rs) = refl

-- ---- fed in any pieces

-- one piece with a place for each byte
abbrev whole_of : List ℕ → Piece
whole_of bs = record { bytes = bs; output = replicate (length bs) 0 }

whole-places : (bs : List ℕ) → HasPlaces (whole_of bs)
whole-places bs = rw length-replicate (le_refl (length bs))

fed-numbers : (ns bs : List ℕ) (ps : List Piece) (p : Piece) (last : Bool) → Each32 ns → bs ≡ vints_of ns
    → bytes_of ps ++ p.bytes ≡ bs → length bs ≤ fed_limit → EachHasPlaces ps → HasPlaces p
    → calls_of fresh ps p last ≡ got ns (goes_on (holding [] (length bs)))
fed-numbers ns bs ps p last e v c l hs h =
    cut_anywhere fresh ps p (whole_of bs) last (sym c) (fresh-takes (length bs) l) hs h (whole-places bs)
    ∙ written_back ns (whole_of bs) last e v l (whole-places bs)

-- THE PANEL
pub panel_reads : (w : World) (steps : List Step) (name : List ℕ) → HandedOn (pos 0) (accepted_for name steps w)
    → PanelReads w steps name
panel_reads w steps name h =
    let rs = readings_among (accepted_for name steps w) in
    let ns = stored_from (pos 0) rs in
    let lane : lane_of (joined name (map call_of steps) w) ≡ vints_of ns =
    ap lane_of (steps-joined name steps w none ∙ handed_joined (accepted_for name steps w) h)
    ∙ lane_readings rs ∙ sym (vints_readings (pos 0) rs) in
    record {
      numbers = ns;
      readings = stored_readings (pos 0) rs (omega arith) (handed_signed (pos 0) (accepted_for name steps w) h);
      fed = λ ts ps p last c g b l hs q.
          fed-numbers ns (gathered name ts w []) ps p last (stored-each (pos 0) rs) (g ∙ lane) b l hs q;
    }
