-- What is promised of the form, and of a log, beyond each function's own equation. One record; proofs/Promises.antt has
-- its value.
use Rattle.std.specs.Prelude.{ℕ, ◌≡◌, true, List, ◌∷◌, ◌++◌, length, None}
use Rattle.std.proofs.Math.Option.{none, some}
use Rattle.numbers.specs.LittleEndian.{Bytes}
use Rattle.spans.specs.Span.{read_span}
use Rattle.fastcmp.specs.Equal.{equal_bytes}
use Rattle.entries.specs.Log.{Entry, joined_in, bytes_for}
use Rattle.entries.specs.Form.{encoded_all, AllFit, entry_at, met, entries_of}

-- RULES Y2, AH4.
pub record Promises : Type 0 where
  -- what was written as entries is gone through as just these entries, to its end
  pub read_back : (es : List Entry) → AllFit es → entries_of (encoded_all es) ≡ met es (length (encoded_all es))
  -- of any bytes: what is gone through as entries is, byte for byte, these entries written,
  pub exact : (run : List ℕ) → Bytes run
      → read_span 0 (entries_of run).end run ≡ encoded_all (entries_of run).entries
  -- and where they end no whole entry follows
  pub all-met : (run : List ℕ) → entry_at run (entries_of run).end ≡ None
  -- what a log comes to for a name: behind what stood, the bytes of the name's entries in order,
  pub in_order : (j : List ℕ) (log : List Entry) (bs : List ℕ)
      → joined_in j log (some bs) ≡ some (bs ++ bytes_for j log)
  -- and where nothing stood, these from the name's first entry on
  pub from_first : (j : List ℕ) (e : Entry) (log : List Entry) → equal_bytes j e.name ≡ true
      → joined_in j (e ∷ log) none ≡ some (bytes_for j (e ∷ log))
