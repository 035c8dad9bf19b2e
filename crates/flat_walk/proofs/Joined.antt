-- What both loops come to is what the log comes to for the name. Assumes nothing.
use Prim.Native.Nat.{ℕ, ◌+◌}
use mathlib.Core.Path.{◌≡◌, refl, sym, ap, ◌∙◌}
use mathlib.Core.Bool.{Bool, true, false, cond}
use mathlib.Core.Option.{Option, none, some}
use mathlib.Core.List.{List, [], ◌∷◌, ◌++◌}
use native.Mathlib.Omega.{arith}
use lib.ListN.{length, length-append}
use Rattle.spans.specs.Span.{overwrite}
use Rattle.spans.proofs.Laws.{overwrite-append, overwrite_none}
use Rattle.fastcmp.specs.Equal.{equal_bytes}
use Rattle.entries.specs.Log.{Entry, joined_on, joined_in}
use Rattle.std.specs.Prelude.{Some, None}
use Rattle.flat_walk.specs.Walk.{Tally, count, tally_on, tally_in, place_on, output_on, place_in, output_in}

-- the bytes that stand, none where the name doesn't
abbrev pub plain : Option (List ℕ) → List ℕ
plain none = []
plain (some bs) = bs

plain-on : (stood : Option (List ℕ)) (bytes : List ℕ) → plain (joined_on stood bytes) ≡ plain stood ++ bytes
plain-on none bytes = refl
plain-on (some bs) bytes = refl

-- the tally of what stands
abbrev pub tally_by : Option (List ℕ) → Tally
tally_by none = None
tally_by (some bs) = Some (length bs)

module _ (name : List ℕ) where
  -- with one entry more
  abbrev on : Entry → Option (List ℕ) → Option (List ℕ)
  on e stood = cond (equal_bytes name e.name) (joined_on stood e.bytes) stood

  pub tally-joined : (es : List Entry) (stood : Option (List ℕ))
      → tally_in name es (tally_by stood) ≡ tally_by (joined_in name es stood)
  unfolding tally_in joined_in tally_on
  tally-joined [] stood = refl
  tally-joined (e ∷ es) stood =
      ap (tally_in name es) (one (equal_bytes name e.name) stood) ∙ tally-joined es (on e stood)
    where
      both : (stood : Option (List ℕ))
          → Some (count (tally_by stood) + length e.bytes) ≡ tally_by (joined_on stood e.bytes)
      both none = ap (λ (n : ℕ). Some n) (omega arith)
      both (some bs) = ap (λ (n : ℕ). Some n) (sym (length-append bs e.bytes))

      one : (b : Bool) (stood : Option (List ℕ))
          → cond b (Some (count (tally_by stood) + length e.bytes)) (tally_by stood)
          ≡ tally_by (cond b (joined_on stood e.bytes) stood)
      one true stood = both stood
      one false stood = refl

  place_from : (es : List Entry) (stood : Option (List ℕ))
      → place_in name es (length (plain stood)) ≡ length (plain (joined_in name es stood))
  unfolding place_in place_on joined_in
  place_from [] stood = refl
  place_from (e ∷ es) stood = ap (place_in name es) (one (equal_bytes name e.name)) ∙ place_from es (on e stood)
    where
      one : (b : Bool)
          → cond b (length (plain stood) + length e.bytes) (length (plain stood))
          ≡ length (plain (cond b (joined_on stood e.bytes) stood))
      one true = sym (ap length (plain-on stood e.bytes) ∙ length-append (plain stood) e.bytes)
      one false = refl

  output_from : (es : List Entry) (stood : Option (List ℕ)) (output : List ℕ)
      → output_in name es (length (plain stood)) (overwrite 0 (plain stood) output)
      ≡ overwrite 0 (plain (joined_in name es stood)) output
  unfolding output_in place_on output_on joined_in
  output_from [] stood output = refl
  output_from (e ∷ es) stood output = one (equal_bytes name e.name) ∙ output_from es (on e stood) output
    where
      front : 0 + length (plain stood) ≡ length (plain stood)
      front = omega arith

      one : (b : Bool)
          → output_in name es (cond b (length (plain stood) + length e.bytes) (length (plain stood)))
          (cond b (overwrite (length (plain stood)) e.bytes (overwrite 0 (plain stood) output))
          (overwrite 0 (plain stood) output))
          ≡ output_in name es (length (plain (cond b (joined_on stood e.bytes) stood)))
          (overwrite 0 (plain (cond b (joined_on stood e.bytes) stood)) output)
      one true =
          rw (
            plain-on stood e.bytes,
            length-append (plain stood) e.bytes,
            overwrite-append 0 (plain stood) e.bytes output,
            front,
          )
      one false = refl

  -- from the output's front on
  pub place-joined : (es : List Entry) → place_in name es 0 ≡ length (plain (joined_in name es none))
  place-joined es = place_from es none

  pub output_joined : (es : List Entry) (output : List ℕ)
      → output_in name es 0 output ≡ overwrite 0 (plain (joined_in name es none)) output
  output_joined es output = ap (output_in name es 0) (sym (overwrite_none 0 output)) ∙ output_from es none output
