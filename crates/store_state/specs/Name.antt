-- RULES A5, V1. The guard of names. Every call by name asks it behind the whole-state check, before it looks anything
-- up.
use Rattle.std.specs.Prelude.{ℕ, cond, leb, eqb}
use Rattle.limits.specs.Limits.{name_limit_for}
use Rattle.store_state.specs.declared.State.{State}
use Rattle.store_state.specs.declared.Name.{Name}
use Rattle.store_state.specs.declared.Name.TheVariants.{TooLong, Nameless, Proper}

-- RULES A5. Bytes of the longest name that a store takes: what its page size allows.
abbrev pub name_limit_of : State → ℕ
name_limit_of st = name_limit_for st.key_arena.size

-- RULES V1. What a name of n bytes is to a store.
unfoldable pub name_kind : State → ℕ → Name
name_kind st n = cond (leb n (name_limit_of st)) (cond (eqb n 0) Nameless Proper) TooLong

-- RULES V1. What is then said: of a name over the limit, of one of no bytes, of one that is looked up.
abbrev pub by_kind : {A : Type 0} → Name → A → A → A → A
by_kind TooLong long nameless looked = long
by_kind Nameless long nameless looked = nameless
by_kind Proper long nameless looked = looked
