-- The guard of names, kind by kind. Assumes nothing.
use Prim.Native.Nat.{ℕ, ◌≤◌, ◌<◌}
use mathlib.Core.Path.{◌≡◌, refl, subst}
use mathlib.Core.Bool.{Bool, true, false, cond}
use native.Mathlib.Omega.{arith}
use lib.Dec.{leb, eqb}
use borrow.Author.Tests.{le-leb, lt-leb, eq-eqb, ne_eqb, leb-true, leb-false, eqb-true, eqb-false}
use Rattle.limits.specs.Limits.{name_limit, name-within}
use Rattle.store_state.specs.declared.State.{State}
use Rattle.store_state.specs.declared.Name.{Name}
use Rattle.store_state.specs.declared.Name.TheVariants.{TooLong, Nameless, Proper}
use Rattle.store_state.specs.Name.{name_limit_of, name_kind}

module _ (st : State) where
  pub kind-long : (n : ℕ) → name_limit_of st < n → name_kind st n ≡ TooLong
  unfolding name_kind
  kind-long n h = rw (lt-leb n (name_limit_of st) h)

  pub kind-nameless : (n : ℕ) → n ≡ 0 → name_kind st n ≡ Nameless
  unfolding name_kind
  kind-nameless n e = rw (le-leb n (name_limit_of st) (omega arith), eq-eqb n 0 e)

  pub kind_proper : (n : ℕ) → 0 < n → n ≤ name_limit_of st → name_kind st n ≡ Proper
  unfolding name_kind
  kind_proper n z h = rw (le-leb n (name_limit_of st) h, ne_eqb n 0 (λ e. omega arith))

  -- what a kind says of the length
  abbrev pub OfLength : Name → ℕ → Type 0
  OfLength TooLong n = name_limit_of st < n
  OfLength Nameless n = n ≡ 0
  OfLength Proper n = (0 < n) × (n ≤ name_limit_of st)

  its_length : (n : ℕ) → OfLength (name_kind st n) n
  unfolding name_kind
  its_length n = go (leb n (name_limit_of st)) refl (eqb n 0) refl
    where
      some : (n ≡ 0 → ⊥) → 0 < n
      some h = omega arith

      go : (b : Bool) → leb n (name_limit_of st) ≡ b → (c : Bool) → eqb n 0 ≡ c
          → OfLength (cond b (cond c Nameless Proper) TooLong) n
      go true e true f = eqb-true _ _ f
      go true e false f = (some (eqb-false n 0 f), leb-true _ _ e)
      go false e c f = leb-false _ _ e

  pub kind-length : (n : ℕ) (k : Name) → name_kind st n ≡ k → OfLength k n
  kind-length n k p = subst (λ (k : Name). OfLength k n) p (its_length n)

  -- two bytes tell the length of a name that is let through
  pub kind_short : (n : ℕ) → name_kind st n ≡ Proper → n ≤ name_limit
  kind_short n e = omega (arith, (kind-length n Proper e).1, name-within st.key_arena.size)
