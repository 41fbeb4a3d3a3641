use Rattle.std.proofs.Common.{◌≡◌, ◌++◌, [], ◌∷◌, ap, sym, subst}
use Rattle.std.specs.List.{concat, AllByRecursion as Each}
use Rattle.dl_report.specs.Layout.{end_lines}
use Rattle.dl_report.specs.Fitting.{EndingFits}
use Rattle.dl_report.proofs.Loops.{each_more, taken_ending}
use Rattle.dl_report.proofs.read.take_endings.Goals as goal

pub take_ending-requires : goal.take_ending-requires
take_ending-requires c = c.requires

pub loop-end-init : goal.loop-end-init
loop-end-init c = record {
  fits = subst (λ es. Each (EndingFits c.args.decls.now) es) (sym c.new-ends.ensures) tt;
  taken = ap (λ es. concat (end_lines c.args.names.now es) ++ c.args.text.now) (sym c.new-ends.ensures);
}

pub loop-end-preserved : goal.loop-end-preserved
loop-end-preserved c =
    let names = c.args.names.now in
    let decls = c.args.decls.now in
    let es = c.loop-end.ends in
    let end = c.in-Some.end in
    let behind = c.in-Some.behind.now in
    let takes = c.in-Some.ensures in
    let pushed : c.push.new.self ≡ es ++ end ∷ [] = c.in_ok-push.ensures.ok in
    record {
      fits = subst (λ xs. Each (EndingFits decls) xs) (sym pushed) (each_more (EndingFits decls) es end c.loop-end.invariant.fits takes.fits);
      taken = subst (λ xs. c.args.text.now ≡ concat (end_lines names xs) ++ behind) (sym pushed)
          (taken_ending names es end c.args.text.now c.loop-end.rest.now behind c.loop-end.invariant.taken takes.taken);
    }

pub returns : goal.returns
returns c = record {
  fits = c.loop-end.invariant.fits;
  taken = c.loop-end.invariant.taken;
  last = c.in_default.ensures;
}
