use Rattle.std.proofs.Common.{◌≡◌, ◌+◌, ◌==◌, length, true, false, refl, sym, ap, ◌∙◌, arith, inl}
use Rattle.std.proofs.lemmas.Bool.Decides.{nat_tests}
use Rattle.dl_report.proofs.Whole.{report_taken, stop_taken, behind_short, lines_short}
use Rattle.dl_report.proofs.Pieces.{none_left, some_left}
use Rattle.dl_report.proofs.read.read.Goals as goal

pub returns-in_default-clause-stop : goal.returns-in_default-clause-stop
returns-in_default-clause-stop c = inl (refl, c.in_default.ensures)

pub take_entries-requires : goal.take_entries-requires
take_entries-requires c = record {
  short = omega (arith, behind_short c.args.names.now c.args.decls.now c.requires.ready c.args.text.now c.in-Some.behind.now c.in-Some.budget c.in-Some.order c.in-Some.ensures, c.requires.short);
  ready = c.requires.ready;
}

pub take_endings-requires : goal.take_endings-requires
take_endings-requires c = c.requires.ready

pub returns-then-is_empty-clause-report : goal.returns-then-is_empty-clause-report
returns-then-is_empty-clause-report c =
    let rest = c.in_ok-ended.ended.1.now in
    report_taken c.args.names.now c.args.decls.now c.requires.ready c.args.text.now c.in-Some.behind.now c.in_ok-acted.acted.1.now rest c.in-Some.budget c.in-Some.order
    c.in_ok-acted.acted.0 c.in_ok-ended.ended.0 c.in-Some.ensures c.in_ok-acted.ensures c.in_ok-ended.ensures
    (none_left (length rest) (sym c.is_empty.ensures ∙ c.if-is_empty.true))

pub next_line-requires : goal.next_line-requires
next_line-requires c =
    let rest = c.in_ok-ended.ended.1.now in
    let es = c.in_ok-acted.acted.0 in
    let ds = c.in_ok-ended.ended.0 in
    omega (
      arith,
      c.len.ensures,
      c.len-2.ensures,
      lines_short c.args.names.now c.args.decls.now c.requires.ready c.args.text.now c.in-Some.behind.now c.in_ok-acted.acted.1.now rest c.in-Some.budget c.in-Some.order
          es ds c.in-Some.ensures c.in_ok-acted.ensures c.in_ok-ended.ensures c.requires.short (some_left (length rest) (sym c.is_empty.ensures ∙ c.if-is_empty.false)),
    )

pub returns-clause-stop : goal.returns-clause-stop
returns-clause-stop c =
    let rest = c.in_ok-ended.ended.1.now in
    let es = c.in_ok-acted.acted.0 in
    let ds = c.in_ok-ended.ended.0 in
    let number : c.next_line.result ≡ (length es + length ds) + 2 = omega (arith, c.next_line.ensures, c.len.ensures, c.len-2.ensures) in
    stop_taken c.args.names.now c.args.decls.now c.requires.ready c.args.text.now c.in-Some.behind.now c.in_ok-acted.acted.1.now rest c.in-Some.budget c.in-Some.order
    es ds c.next_line.result c.in-Some.ensures c.in_ok-acted.ensures c.in_ok-ended.ensures (some_left (length rest) (sym c.is_empty.ensures ∙ c.if-is_empty.false)) number
