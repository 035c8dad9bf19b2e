-- Header, count and place, the output's length, then from there on. Assumes nothing.
use Prim.Native.Nat.{ℕ, ◌-◌, min}
use mathlib.Core.Bool.{true}
use mathlib.Core.Path.{◌≡◌, sym, ap, ◌∙◌}
use native.Mathlib.Omega.{arith}
use lib.ListN.{length}
use Rattle.records.proofs.Laws.{Headed, head-found, head_lost}
use Rattle.expull_header.specs.Header.{lane_length}
use Rattle.expull_header.proofs.Laws.{length_most}
use Rattle.lane_pieces.specs.declared.Pieced.TheVariants.{Refused}
use Rattle.lane_pieces.specs.Piece.{piece_length}
use Rattle.lane_places.specs.PieceOn.{fits_length, out}
use Rattle.lane_places.proofs.PieceOn.{fits_facts, fits-going, on_4, on_2, on_8, on_go, on_none}
use Rattle.lane_places.proofs.piece_on_at.Goals as goal
use Rattle.lane_places.proofs.piece_on_at.Goals.{After-min-n, Else-not-fits_length, In-Some}

-- the header that was found
headed : (c : In-Some) → Headed c.args.keys.now c.args.at c.in-Some.h
headed c = head-found _ _ _ (sym c.in-Some.ensures)

-- the place fits; how many bytes that gives
fitting : (c : Else-not-fits_length) → fits_length c.args.p (lane_length (c.in-Some.h)) ≡ true
fitting c =
    ap (fits_length c.args.p) (sym c.lane_length-length.ensures) ∙ sym c.fits_length.ensures ∙
    c.if-not-fits_length.false

many : (c : After-min-n) → c.min-n.result ≡ piece_length (c.in-Some.h) c.args.p.given (length c.args.output.now)
many c =
    let a = c.args in c.min-n.ensures ∙ ap (λ (n : ℕ). min (length a.output.now) (n - a.p.given))
    c.lane_length-length.ensures

pub returns-in_default : goal.returns-in_default
returns-in_default c =
    (λ i. out (c.stays.ensures.0 i) (c.stays.ensures.1 i) c.args.output.now) ∙ sym (on_4 c.args.lists.now.arena
    c.args.keys.now c.args.lists.now.bytes.now c.args.p c.args.at c.args.output.now (head_lost _ _ (sym c.in_default.ensures)))

pub lane_length-length-requires : goal.lane_length-length-requires
lane_length-length-requires c = (headed (goal.at.lane_length-length-requires c).In-Some).ends

pub fits_length-requires : goal.fits_length-requires
fits_length-requires c =
    omega (
      arith,
      c.lane_length-length.ensures,
      length_most (c.in-Some.h) (headed (goal.at.fits_length-requires
          c).In-Some).ends,
    )

pub returns-then-not-fits_length : goal.returns-then-not-fits_length
returns-then-not-fits_length c =
    let a = c.args in (λ i. out (c.stays-then-not-fits_length.ensures.0 i) (c.stays-then-not-fits_length.ensures.1
    i) a.output.now) ∙ sym (on_2 a.lists.now.arena a.keys.now a.lists.now.bytes.now a.p a.at a.output.now (headed
    (goal.at.returns-then-not-fits_length c).In-Some) (ap (fits_length a.p) (sym c.lane_length-length.ensures) ∙
    sym c.fits_length.ensures ∙ c.if-not-fits_length.true))

pub returns-then-room-eq0 : goal.returns-then-room-eq0
returns-then-room-eq0 c =
    let a = c.args in (λ i. out (c.stays-then-room-eq0.ensures.0 i) (c.stays-then-room-eq0.ensures.1 i)
    a.output.now) ∙ ap (λ (n : ℕ). out (Refused 8 n) a.p a.output.now) c.lane_length-length.ensures ∙ sym (on_8
    a.lists.now.arena a.keys.now a.lists.now.bytes.now a.p a.at a.output.now (headed (goal.at.returns-then-room-eq0 c).In-Some)
    (fitting (goal.at.returns-then-room-eq0 c).Else-not-fits_length) c.if-room-eq0.true)

pub overflow_sub-length : goal.overflow_sub-length
overflow_sub-length c =
    omega (
      arith,
      c.lane_length-length.ensures,
      (fits_facts c.args.p (lane_length (c.in-Some.h)) (fitting
          (goal.at.overflow_sub-length c).Else-not-fits_length)).counted,
    )

pub returns-then-n-eq0 : goal.returns-then-n-eq0
returns-then-n-eq0 c =
    let a = c.args in (λ i. out (c.stays-then-n-eq0.ensures.0 i) (c.stays-then-n-eq0.ensures.1 i) a.output.now) ∙
    sym (on_none a.lists.now.arena a.keys.now a.lists.now.bytes.now a.p a.at a.output.now (headed (goal.at.returns-then-n-eq0
    c).In-Some) (fitting (goal.at.returns-then-n-eq0 c).Else-not-fits_length) (omega (arith, c.if-room-eq0.false))
    c.min-n.result (many (goal.at.returns-then-n-eq0 c).After-min-n) c.if-n-eq0.true)

pub go_from-requires : goal.go_from-requires
go_from-requires c =
    fits-going (c.in-Some.h) c.args.p (headed (goal.at.go_from-requires c).In-Some).ends (fitting
    (goal.at.go_from-requires c).Else-not-fits_length) (omega (arith, c.if-n-eq0.false)) (many
    (goal.at.go_from-requires c).After-min-n)

pub returns : goal.returns
returns c =
    let a = c.args in c.go_from.ensures ∙ sym (on_go a.lists.now.arena a.keys.now a.lists.now.bytes.now a.p a.at a.output.now (headed
    (goal.at.returns c).In-Some) (fitting (goal.at.returns c).Else-not-fits_length) (omega (
      arith,
      c.if-room-eq0.false,
    )) c.min-n.result (many (goal.at.returns c).After-min-n))
