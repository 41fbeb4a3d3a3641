use Rattle.std.proofs.Common.{decimal, [], ◌∷◌, ◌+◌, sym}
use Rattle.std.proofs.lemmas.Fmt.{decimal_digit}
use Rattle.dl_report.proofs.Written.{on_word, on_equal}
use Rattle.dl_report.proofs.append.natural.Goals as goal

pub returns-then-number-lt10 : goal.returns-then-number-lt10
returns-then-number-lt10 c =
    let mid = c.byte.new.out.items in
    let new = c.byte-then-number-lt10.new.out.items in
    on_word c.byte-then-number-lt10.result new mid c.args.out.now.items (decimal c.args.number) c.in_ok-byte.ensures
    (on_equal c.byte-then-number-lt10.result new mid ((48 + c.args.number) ∷ []) (decimal c.args.number) (sym (decimal_digit c.args.number c.if-number-lt10.true)) c.byte-then-number-lt10.ensures)

pub returns : goal.returns
returns c = on_word c.digits.result c.digits.new.out.items c.byte.new.out.items c.args.out.now.items (decimal c.args.number) c.in_ok-byte.ensures c.digits.ensures
