use Rattle.std.proofs.Common.{[], ◌∷◌, ◌++◌, ◌+◌, ◌%◌, ◌∙◌, ap, arith, decimal, sym}
use Rattle.std.proofs.lemmas.Fmt.{decimal_digit, decimal_step}
use Rattle.dl_report.proofs.Written.{on_equal, on_front}
use Rattle.dl_report.proofs.lead.Lead.append.Goals as goal

pub returns-then-number-lt10 : goal.returns-then-number-lt10
returns-then-number-lt10 c =
    on_equal c.byte.result c.byte.new.out.items c.args.out.now.items ((48 + c.args.number) ∷ []) (decimal c.args.number) (sym (decimal_digit c.args.number c.if-number-lt10.true)) c.byte.ensures

pub returns : goal.returns
returns c =
    let number = c.args.number in
    let last = (48 + number % 10) ∷ [] in
    let old = c.args.out.now.items in
    let new = c.byte-2.new.out.items in
    let tens = c.text.result.now in
    on_equal c.byte-2.result new old (tens ++ last) (decimal number)
    (ap (λ t. t ++ last) (c.text.ensures ∙ ap decimal c.keep.ensures) ∙ sym (decimal_step number (omega (arith, c.if-number-lt10.false)) c.ranges.number.fits))
    (on_front c.byte-2.result new c.short.new.out.items old tens last c.in_ok-short.ensures c.byte-2.ensures)
