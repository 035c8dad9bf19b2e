-- Where the lookup meets the name's record, that record's short way; else the lookup is handed on. Assumes nothing.
use mathlib.Core.Bool.{Bool}
use mathlib.Core.Path.{◌≡◌, refl, sym, ap, subst, ◌∙◌}
use native.Mathlib.Omega.{arith}
use lib.ListN.{length}
use Rattle.shared_arena_hashmap.specs.declared.Met.{Met}
use Rattle.shared_arena_hashmap.specs.declared.Met.TheVariants.{Standing}
use Rattle.shared_arena_hashmap.specs.declared.Walk.{Walk}
use Rattle.shared_arena_hashmap.specs.Probe.{walked}
use Rattle.store_look.specs.Look.{Lent, lent, walk_of}
use Rattle.store_append.specs.Append.{Out, Looked, append_of, append_standing}
use Rattle.store_quick.specs.Quick.{QuickOf}
use Rattle.store_state.proofs.Whole.{Whole, whole_facts, find_asks}
use Rattle.store_look.proofs.Walked.{walk-found}
use Rattle.store_look.proofs.Found.{walk-held}
use Rattle.store_append.proofs.Cases.{append-met, met-standing}
use Rattle.store_quick.proofs.try_proper.Goals as goal
use Rattle.store_quick.proofs.try_proper.Goals.{After-find-w, After-slice_known-4-1, In-Standing, Start}

whole : (s : Start) → Whole s.args.st (length s.args.table.now) (length s.args.keys.now) (length s.args.lists.now)
whole s =
    whole_facts s.args.st (length s.args.table.now) (length s.args.keys.now) (length s.args.lists.now) s.requires.0

-- the walk is the name's
walk_is : (c : After-find-w) → c.find-w.result ≡ walk_of c.args.st (lent c.args.table.now c.args.keys.now
    c.args.lists.now) c.args.name.now
walk_is c =
    walk-found c.args.st (lent c.args.table.now c.args.keys.now c.args.lists.now) c.args.name.now _ _ _
    c.find-w.ensures c.first_bucket-first.ensures c.murmurhash2-hash.ensures

-- and is handed on
handed : (c : After-find-w) → (x : Met) → c.find-w.result.met ≡ x → Looked c.args.st (lent c.args.table.now
    c.args.keys.now c.args.lists.now) c.args.name.now c.murmurhash2-hash.result x c.find-w.result.looked
handed c x e =
    record {
      whole = c.requires.0;
      proper = c.requires.1;
      hashed = c.murmurhash2-hash.ensures;
      walk = sym (let it :
          c.find-w.result ≡ walk_of c.args.st (lent c.args.table.now c.args.keys.now c.args.lists.now) c.args.name.now =
          walk-found c.args.st (lent c.args.table.now c.args.keys.now c.args.lists.now) c.args.name.now _ _ _
          c.find-w.ensures c.first_bucket-first.ensures c.murmurhash2-hash.ensures in it) ∙ ap (λ (y : Met). walked y
          c.find-w.result.looked) e;
    }

-- what it met
met_is : (c : In-Standing) → (walk_of c.args.st (lent c.args.table.now c.args.keys.now c.args.lists.now)
    c.args.name.now).met ≡ Standing c.in-Standing.at
met_is c =
    sym (ap (λ (w : Walk). w.met) (let it : c.find-w.result ≡ walk_of c.args.st (lent c.args.table.now
    c.args.keys.now c.args.lists.now) c.args.name.now = walk-found c.args.st (lent c.args.table.now c.args.keys.now
    c.args.lists.now) c.args.name.now _ _ _ c.find-w.ensures c.first_bucket-first.ensures c.murmurhash2-hash.ensures
    in it)) ∙ c.in-Standing.is

-- what the record's short way came to
came : (c : After-slice_known-4-1) → (b : Bool) → c.quick_standing.result ≡ b → QuickOf b c.args.st (lent
    c.args.table.now c.args.keys.now c.args.lists.now) (lent c.args.table.now c.quick_standing.new.keys
    c.quick_standing.new.lists) (append_of c.args.st (lent c.args.table.now c.args.keys.now c.args.lists.now)
    c.args.name.now c.args.bytes.now)
came c b e =
    let a = c.args in
    let m = (lent c.args.table.now c.args.keys.now c.args.lists.now) in
    let after : Lent = lent a.table.now c.quick_standing.new.keys c.quick_standing.new.lists in
    let o : append_of a.st m a.name.now a.bytes.now ≡ append_standing a.st m c.in-Standing.at a.bytes.now =
    append-met a.st m a.name.now a.bytes.now _ c.requires.0 c.requires.1 (let it : (walk_of c.args.st (lent
    c.args.table.now c.args.keys.now c.args.lists.now) c.args.name.now).met ≡ Standing c.in-Standing.at = sym (ap (λ
    (w : Walk). w.met) (let it : c.find-w.result ≡ walk_of c.args.st (lent c.args.table.now c.args.keys.now
    c.args.lists.now) c.args.name.now = walk-found c.args.st (lent c.args.table.now c.args.keys.now
    c.args.lists.now) c.args.name.now _ _ _ c.find-w.ensures c.first_bucket-first.ensures c.murmurhash2-hash.ensures
    in it)) ∙ c.in-Standing.is in it) ∙ met-standing a.st m a.name.now a.bytes.now c.in-Standing.at in subst (λ (x :
    Out). QuickOf b a.st m after x) (sym o) (subst (λ (x : Bool). QuickOf x a.st m after (append_standing a.st m
    c.in-Standing.at a.bytes.now)) e c.quick_standing.ensures)

pub first_bucket-first-requires : goal.first_bucket-first-requires
first_bucket-first-requires c = omega (arith, whole (goal.at.first_bucket-first-requires c).Start)

pub find-w-requires : goal.find-w-requires
find-w-requires c = find_asks _ _ _ _ (whole (goal.at.find-w-requires c).Start) _ c.first_bucket-first.ensures

pub returns-in_default : goal.returns-in_default
returns-in_default c = (refl, handed (goal.at.returns-in_default c).After-find-w _ refl)

pub quick_standing-requires : goal.quick_standing-requires
quick_standing-requires c =
    let h = walk-held c.args.st (lent c.args.table.now c.args.keys.now c.args.lists.now) c.args.name.now _
    c.requires.0 (met_is (goal.at.quick_standing-requires c).In-Standing) in (h.whole, (h.length-in, h.value_in))

pub returns-then-quick_standing : goal.returns-then-quick_standing
returns-then-quick_standing c =
    came (goal.at.returns-then-quick_standing c).After-slice_known-4-1 _ c.if-quick_standing.true

pub returns : goal.returns
returns c = (
  came (goal.at.returns c).After-slice_known-4-1 _ c.if-quick_standing.false,
  handed (goal.at.returns
      c).After-find-w _ c.in-Standing.is,
)
