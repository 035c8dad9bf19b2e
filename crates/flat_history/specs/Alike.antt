-- Document 02, Eleven: "both stores answer every lookup (as standing or absent only), length and reading alike, 3, 8
-- and 13 included". They say the same: word, number and values, as X7 has them of each.
use Rattle.std.specs.Prelude.{ℕ, ◌≡◌, cond, List, [], ◌∷◌, Err}
use Rattle.limits.specs.Refusals.{Said, answered, refused, standing, absent, is_among, number_of as number_for}
use Rattle.limits.specs.declared.Refusal.{Refusal}
use Rattle.store_look.specs.declared.Lookup.{Lookup}
use Rattle.store_look.specs.declared.Lookup.TheVariants.{At, Missing, Failed}
use Rattle.store_look.specs.Said.{said_answer}
use Rattle.store_look.specs.Look.{lookup_of, length_of, read_of}
use Rattle.store_append.specs.Append.{declined}
use Rattle.history.specs.History.{World, appends, append_in}
use Rattle.history.specs.Numbers.{number_of}
use Rattle.entries.specs.Log.{entry}
use Rattle.flat_store.specs.Said.{said_lookup as flat_said_lookup, said_length as flat_said_length}
use Rattle.flat_store.specs.Said.{said_read as flat_said_read}
use Rattle.flat_store.specs.Calls.{out, lookup_of as flat_lookup_of, length_of as flat_length_of, read_of as flat_read_of}
use Rattle.flat_store.specs.History.{Flat, append_in as flat_append_in, number_of as flat_number_of}

-- RULES AH9. A lookup as standing or absent only: the record's place isn't told
abbrev pub standing_only : Lookup → Said
standing_only (At at) = answered standing []
standing_only Missing = answered absent []
standing_only (Failed n) = refused n []

-- RULES AH9. An append's number where the name decides it, 3 or 13, and else 0: room is each store's own
abbrev pub by_name : ℕ → ℕ
by_name n = cond (is_among n (3 ∷ 13 ∷ [])) n 0

-- RULES AH9. What the two stores say of a name
pub record Alike (w : World) (f : Flat) (name : List ℕ) : Type 0 where
  pub looked_up : standing_only (lookup_of w.state w.memory name)
      ≡ flat_said_lookup (flat_lookup_of f.buffer f.used name)
  pub measured : said_answer (length_of w.state w.memory name)
      ≡ flat_said_length (flat_length_of f.buffer f.used name)
  -- a reading, into any output, and what it leaves there
  pub read : (output : List ℕ)
      → said_answer (read_of w.state w.memory name output).answer
      ≡ flat_said_read (flat_read_of f.buffer f.used name output).answer
  pub written : (output : List ℕ)
      → (read_of w.state w.memory name output).output ≡ (flat_read_of f.buffer f.used name output).output
  -- an append, of any bytes: 3 in both, 13 in both, or neither of them in either
  pub appended : (bytes : List ℕ)
      → by_name (number_of (appends name bytes) w) ≡ by_name (flat_number_of f (entry name bytes))

-- RULES AH9. Both refuse an append with one number, and nothing has changed
abbrev pub BothRefuse : Refusal → World → Flat → List ℕ → List ℕ → Type 0
BothRefuse r w f name bytes =
    (append_in w name bytes ≡ declined w.state w.memory (number_for r))
    × (flat_append_in f (entry name bytes) ≡ out (Err r) f.buffer)
