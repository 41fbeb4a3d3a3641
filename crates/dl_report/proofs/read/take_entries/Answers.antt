use Rattle.std.proofs.Common.{◌≡◌, ◌+◌, ◌<◌, ◌^◌, suc, ◌++◌, [], ◌∷◌, length, length-append, ap, sym, subst, ◌∙◌, arith, refl}
use Rattle.std.specs.List.{concat, AllByRecursion as Each}
use Rattle.dl_report.specs.Layout.{entry_lines}
use Rattle.dl_report.specs.Fitting.{EntryFits}
use Rattle.dl_report.specs.Taken.{HasNoEntry}
use Rattle.dl_report.proofs.Loops.{each_more, taken_entry}
use Rattle.dl_report.proofs.Whole.{entries_bytes}
use Rattle.dl_report.proofs.read.take_entries.Goals as goal

pub take_entry-requires : goal.take_entry-requires
take_entry-requires c = c.requires.ready

pub overflow_add-number : goal.overflow_add-number
overflow_add-number c =
    let names = c.args.names.now in
    let decls = c.args.decls.now in
    let es = c.loop-entry.entries in
    omega (
      arith,
      entries_bytes names decls c.requires.ready 1 es,
      ap length c.loop-entry.invariant.taken,
      length-append (concat (entry_lines names decls 1 es)) c.loop-entry.rest.now,
      c.loop-entry.invariant.number,
      c.requires.short,
    )

pub loop-entry-init : goal.loop-entry-init
loop-entry-init c = record {
  fits = subst (λ es. Each (EntryFits c.args.decls.now) es) (sym c.new-entries.ensures) tt;
  taken = ap (λ es. concat (entry_lines c.args.names.now c.args.decls.now 1 es) ++ c.args.text.now) (sym c.new-entries.ensures);
  number = sym (ap (λ es. length es + 1) c.new-entries.ensures);
}

pub loop-entry-preserved : goal.loop-entry-preserved
loop-entry-preserved c =
    let names = c.args.names.now in
    let decls = c.args.decls.now in
    let es = c.loop-entry.entries in
    let entry = c.in-Some.entry in
    let behind = c.in-Some.behind.now in
    let takes = c.in-Some.ensures in
    let pushed : c.push.new.self ≡ es ++ entry ∷ [] = c.in_ok-push.ensures.ok in
    record {
      fits = subst (λ xs. Each (EntryFits decls) xs) (sym pushed) (each_more (EntryFits decls) es entry c.loop-entry.invariant.fits takes.fits);
      taken = subst (λ xs. c.args.text.now ≡ concat (entry_lines names decls 1 xs) ++ behind) (sym pushed)
          (taken_entry names decls es entry c.args.text.now c.loop-entry.rest.now behind c.loop-entry.number c.loop-entry.invariant.number c.loop-entry.invariant.taken takes.taken);
      number = omega (arith, ap length pushed, length-append es (entry ∷ []), c.loop-entry.invariant.number);
    }

pub returns : goal.returns
returns c =
    let is : c.loop-entry.number ≡ suc (length c.loop-entry.entries) = omega (arith, c.loop-entry.invariant.number) in
    record {
      fits = c.loop-entry.invariant.fits;
      taken = c.loop-entry.invariant.taken;
      last = subst (λ n. HasNoEntry c.args.names.now c.args.decls.now n c.loop-entry.rest.now) is c.in_default.ensures;
    }
