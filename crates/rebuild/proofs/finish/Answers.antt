use mathlib.Core.Path.{◌≡◌, sym, ◌∙◌}
use Prim.Native.Nat.{◌<◌}
use native.Mathlib.Omega.{arith}
use Rattle.fold.proofs.Scans.{best-found}
use Rattle.rebuild.specs.Rebuild.{new_helpand, new_share}
use Rattle.rebuild.proofs.Choices.{finish-none, finish-at, helpand_in, helpand-out, share_in, share-out}
use Rattle.arrays.proofs.Tabulate.{tabulate-none, tabulate-next}
use Rattle.rebuild.proofs.finish.Goals.{else-in_b, then-in_b}
use Rattle.rebuild.proofs.finish.Goals as goal

-- no node is in B
pub returns-in_default : goal.returns-in_default
returns-in_default c =
    sym (finish-none _ _ (sym c.lowest_in_b.ensures ∙ c.in_default.is))

pub loop-k-init : goal.loop-k-init
loop-k-init c = record {
  root = sym c.lowest_in_b.ensures ∙ c.in-Some.is;
  helpands = sym (tabulate-none _);
  shares = sym (tabulate-none _);
}

pub loop-k-preserved : goal.loop-k-preserved
loop-k-preserved c =
    let s = c.args.s in
    let l = c.loop-k in
    let v = l.invariant in
    let o = sym c.in_b.ensures in
    let root = c.in-Some.root in
    let h : l.k < 64 = omega arith in
    elim c.if-in_b.branch [
      | then-in_b w ↦ record {
        root = v.root;
        helpands = w.helpands-is
            ∙ tabulate-next (new_helpand s root) l.k root l.helpands h v.helpands (sym (helpand_in s l.k root (o ∙ w.if-in_b.true)));
        shares = w.shares-is ∙ tabulate-next (new_share s) l.k 0 l.shares h v.shares (sym (share_in s l.k (o ∙ w.if-in_b.true)));
      }
      | else-in_b w ↦ record {
        root = v.root;
        helpands = w.helpands-is
            ∙ tabulate-next (new_helpand s root) l.k _ l.helpands h v.helpands (sym (helpand-out s l.k root (o ∙ w.if-in_b.false)));
        shares = w.shares-is ∙ tabulate-next (new_share s) l.k _ l.shares h v.shares (sym (share-out s l.k (o ∙ w.if-in_b.false)));
      }
    ]

pub returns : goal.returns
returns c =
    let v = c.loop-k.invariant in
    let e : c.loop-k.k ≡ c.args.nodes = omega arith in
    rw (v.helpands, v.shares, e) (sym (finish-at _ _ _ v.root))

pub overflow_cast-helpands : goal.overflow_cast-helpands
overflow_cast-helpands c = omega (arith, (best-found _ _ _ _ c.loop-k.invariant.root).0)
