-- The tests of procedures are true exactly where the model's conditions hold.
use Rattle.std.proofs.Common.{◌≡◌, ℕ, ℤ, zero, suc, ◌+◌, ◌<◌, ◌≤◌, Bool, true, false, ◌&&◌, List, [], ◌∷◌, ◌++◌, length, map, get_or, drop, min, refl, sym, ◌∙◌, ap, subst, arith}
use Rattle.std.proofs.lemmas.Bool.{and_parts, and_from, ltb-true, ltb-false, lt-ltb, le-ltb}
use Rattle.std.proofs.lemmas.List.{drop_more, drop_all}
use Rattle.std.specs.Prelude.{nat_lt, Option, Some, None, is_some, slice_get, unwrap_or}
use Rattle.std.specs.List.{list_all, AllByRecursion as Each}
use Rattle.dl_term.specs.declared.syntax.Lab.TheVariants.{At}
use Rattle.dl_term.specs.declared.syntax.Term.{Term}
use Rattle.dl_term.specs.declared.syntax.Formula.{Formula, True, False, Eq, Lt, Le, Not', And', Or', Implies', All', Exists', Each', Any', more_of-Formula as one_formula, end_of-Formula as end_formula}
use Rattle.dl_model.specs.declared.protocol.Tag.{Tag}
use Rattle.dl_model.specs.declared.protocol.Protocol.{Protocol}
use Rattle.dl_model.specs.declared.protocol.Instances.{Instances}
use Rattle.dl_model.specs.declared.program.Command.{Command, Send, Await, Poll, Read, Set, If', While', Call, Row_of-Command, end_of-Command, more_of-Command, items-the_row-Command, items_hidden-the_row-Command-0}
use Rattle.dl_model.specs.declared.program.Command.TheVariants.{If as IfOf, While as WhileOf}
use Rattle.dl_model.specs.declared.program.Proc.{Proc}
use Rattle.dl_model.specs.declared.file.Program.{Program}
use Rattle.dl_model.specs.declared.file.Deploy.{Deploy}
use Rattle.dl_model.specs.declared.file.Decls.{Decls}
use Rattle.dl_model.specs.Block.{Block, Done, Sends, Awaits, Polls, Reads, Sets, Ifs, Whiles, Calls, block_of, followed, row_block}
use Rattle.dl_model.specs.Sorts.{has, in_sort, all_in_sorts}
use Rattle.dl_model.specs.Lookup.{Parameter, arg_names, arg_sorts, proc_at, tag_at, no_tag, no_protocol, protocol_in}
use Rattle.dl_model.specs.Words.{me_word, result_word}
use Rattle.dl_model.specs.Spoken.{bound_names}
use Rattle.dl_model.specs.Scopes.{IsExpression, IsTest, IsIndex, file_label, protocol_found, is_field, is_tag}
use Rattle.dl_model.specs.Formed.{AreDistinct, AreNames, AreParameters, IsFileFormula, proc_variables, AreTargets, IsCountOf, IsReceived, BlockIsFormed, ProcIsFormed, ProgramIsFormed, DeployIsFormed, block_bound, points, all_points}
use Rattle.dl_formed.specs.Known.{is_term, is_formula, formula_is_apart}
use Rattle.dl_formed.specs.Decided.{are_distinct, tag_in, takes}
use Rattle.dl_formed.specs.Programs.{note_scope, value_scope, Sight, is_note, binds_none, is_test, gives, is_index, block_is_formed, command_is_formed, proc_sight, command_points, points_of, points_of_procs, proc_is_formed, procs_are_formed, has_constants, program_is_formed, deployment_is_formed, block_is_apart, command_is_apart, proc_is_apart}
use Rattle.dl_formed.proofs.Deciding.{Says, itself, always, said, two, below, at_most, equal, each, joined}
use Rattle.dl_formed.proofs.Knowing.{IsOther, apart, term_says, formula_says}
use Rattle.dl_formed.proofs.Judging.{distinct_says, names_say, parameters_say, placed_says}

-- ---- what is seen

note_says : (decls : Decls) (variables : List ℕ) (f : Formula) → Says (is_formula (note_scope decls variables) f) (IsFileFormula decls variables f)
note_says decls variables f = formula_says (note_scope decls variables) f

value_says : (variables : List ℕ) (term : Term) → Says (is_term (value_scope variables) term) (IsExpression variables term)
value_says variables term = term_says (value_scope variables) term

values_say : (variables : List ℕ) (terms : List Term) → Says (list_all (λ term. is_term (value_scope variables) term) terms) (Each (IsExpression variables) terms)
values_say variables terms = each (λ term. is_term (value_scope variables) term) (IsExpression variables) (value_says variables) terms

no-more : {X : Type 0} (x : X) (xs : List X) → (x ∷ xs) ≡ [] → ⊥
no-more x xs e = cc e

both-none : {a b : Bool} (xs ys : List ℕ) → Says a (xs ≡ []) → Says b (ys ≡ []) → Says (a && b) ((xs ++ ys) ≡ [])
both-none xs ys s t = said ((xs ≡ []) × (ys ≡ [])) ((xs ++ ys) ≡ []) (λ w. ap (λ v. v ++ ys) w.0 ∙ w.1) (parts xs ys) (two s t)
  where
    parts : (xs ys : List ℕ) → (xs ++ ys) ≡ [] → (xs ≡ []) × (ys ≡ [])
    parts [] ys e = (refl, e)
    parts (x ∷ xs) ys e = absurd (no-more x (xs ++ ys) e)

none_bound : (f : Formula) → Says (binds_none f) (bound_names f ≡ [])
none_bound True = record { there = λ e. refl; back = λ e. refl }
none_bound False = record { there = λ e. refl; back = λ e. refl }
none_bound (Eq a b) = record { there = λ e. refl; back = λ e. refl }
none_bound (Lt a b) = record { there = λ e. refl; back = λ e. refl }
none_bound (Le a b) = record { there = λ e. refl; back = λ e. refl }
none_bound (Not' _ (one_formula f end_formula)) = none_bound f
none_bound (And' _ (one_formula f end_formula) _ (one_formula g end_formula)) = both-none (bound_names f) (bound_names g) (none_bound f) (none_bound g)
none_bound (Or' _ (one_formula f end_formula) _ (one_formula g end_formula)) = both-none (bound_names f) (bound_names g) (none_bound f) (none_bound g)
none_bound (Implies' _ (one_formula f end_formula) _ (one_formula g end_formula)) = both-none (bound_names f) (bound_names g) (none_bound f) (none_bound g)
none_bound (All' sym _ (one_formula body end_formula)) = record { there = λ e. absurd (cc e); back = λ e. absurd (no-more sym (bound_names body) e) }
none_bound (Exists' sym _ (one_formula body end_formula)) = record { there = λ e. absurd (cc e); back = λ e. absurd (no-more sym (bound_names body) e) }
none_bound (Each' msg label tag _ (one_formula body end_formula)) = record { there = λ e. absurd (cc e); back = λ e. absurd (no-more msg (bound_names body) e) }
none_bound (Any' msg label tag _ (one_formula body end_formula)) = record { there = λ e. absurd (cc e); back = λ e. absurd (no-more msg (bound_names body) e) }

test_says : (variables : List ℕ) (f : Formula) → Says (is_formula (value_scope variables) f && binds_none f) (IsTest variables f)
test_says variables f = two (formula_says (value_scope variables) f) (none_bound f)

targets_say : (proc : Proc) (targets : List ℕ) → Says (list_all (has proc.locals) targets && are_distinct targets) (AreTargets proc targets)
targets_say proc targets = two (each (has proc.locals) (λ target. has proc.locals target ≡ true) (λ target. itself (has proc.locals target)) targets) (distinct_says targets)

-- ---- tags

tag_at-is : (inst : Instances) (label tag : ℕ) → tag_at inst label tag ≡ unwrap_or (tag_in (file_label inst (At label)) tag) no_tag
tag_at-is inst label tag = at_place (slice_get inst.of label)
  where
    in_found : (protocol : Option Protocol) → unwrap_or (slice_get (unwrap_or protocol no_protocol).tags tag) no_tag ≡ unwrap_or (tag_in protocol tag) no_tag
    in_found (Some protocol) = refl
    in_found None = refl

    at_place : (place : Option ℕ) → unwrap_or (slice_get (protocol_in inst place).tags tag) no_tag ≡ unwrap_or (tag_in (protocol_found inst place) tag) no_tag
    at_place (Some place) = in_found (slice_get inst.protocols place)
    at_place None = refl

gives_says : (tag : Option Tag) (count : ℕ) → Says (gives tag count) ((is_some (unwrap_or tag no_tag).receive ≡ true) × (count ≡ length (unwrap_or tag no_tag).args))
gives_says (Some tag) count = two (itself (is_some tag.receive)) (equal count (length tag.args))
gives_says None count = record { there = λ e. absurd (cc e); back = λ w. absurd (cc w.0) }

received_says : (decls : Decls) (label tag count : ℕ) → Says (gives (tag_in (file_label decls.inst (At label)) tag) count) (IsReceived decls label tag × IsCountOf decls label tag count)
received_says decls label tag count =
    let fits : Tag → Type 0 = λ found. (is_some found.receive ≡ true) × (count ≡ length found.args) in
    let here : Says (gives (tag_in (file_label decls.inst (At label)) tag) count) (fits (unwrap_or (tag_in (file_label decls.inst (At label)) tag) no_tag)) = gives_says (tag_in (file_label decls.inst (At label)) tag) count in
    subst (λ found. Says (gives (tag_in (file_label decls.inst (At label)) tag) count) (fits found)) (sym (tag_at-is decls.inst label tag)) here

sent_says : (decls : Decls) (label tag count : ℕ) → Says (takes (tag_in (file_label decls.inst (At label)) tag) count) ((is_tag (file_label decls.inst (At label)) tag ≡ true) × IsCountOf decls label tag count)
sent_says decls label tag count = placed_says decls.inst (slice_get decls.inst.of label) tag count

index_says : (variables : List ℕ) (decls : Decls) (number : ℕ) (locals : List ℕ) (index : Option Term) →
    Says (is_index (record { decls = decls; number = number; locals = locals; variables = variables }) index) (IsIndex (IsExpression variables) index)
index_says variables decls number locals (Some index) = value_says variables index
index_says variables decls number locals None = always

-- ---- commands

block_says : (decls : Decls) (number : ℕ) (proc : Proc) (block : Block) → Says (block_is_formed (proc_sight decls number proc) block) (BlockIsFormed decls number proc block)
block_says decls number proc Done = always
block_says decls number proc (Sends note label tag to args rest) =
    said ((IsFileFormula decls (proc_variables proc) note × (((is_tag (file_label decls.inst (At label)) tag ≡ true) × IsCountOf decls label tag (length args)) ×
    (IsExpression (proc_variables proc) to × Each (IsExpression (proc_variables proc)) args))) × BlockIsFormed decls number proc rest)
    (BlockIsFormed decls number proc (Sends note label tag to args rest))
    (λ w. (w.0.0, w.0.1.0.0, w.0.1.0.1, w.0.1.1.0, w.0.1.1.1, w.1)) (λ r. ((r.0, ((r.1, r.2), (r.3, r.4))), r.5))
    (two (two (note_says decls (proc_variables proc) note) (two (sent_says decls label tag (length args))
    (two (value_says (proc_variables proc) to) (values_say (proc_variables proc) args)))) (block_says decls number proc rest))
block_says decls number proc (Awaits note label tag sender args rest) =
    said ((IsFileFormula decls (proc_variables proc) note × ((IsReceived decls label tag × IsCountOf decls label tag (length args)) × AreTargets proc (sender ∷ args))) ×
    BlockIsFormed decls number proc rest)
    (BlockIsFormed decls number proc (Awaits note label tag sender args rest))
    (λ w. (w.0.0, w.0.1.0.0, w.0.1.0.1, w.0.1.1, w.1)) (λ r. ((r.0, ((r.1, r.2), r.3)), r.4))
    (two (two (note_says decls (proc_variables proc) note) (two (received_says decls label tag (length args)) (targets_say proc (sender ∷ args)))) (block_says decls number proc rest))
block_says decls number proc (Polls note got label tag sender args rest) =
    said ((IsFileFormula decls (proc_variables proc) note × ((IsReceived decls label tag × IsCountOf decls label tag (length args)) × AreTargets proc (got ∷ sender ∷ args))) ×
    BlockIsFormed decls number proc rest)
    (BlockIsFormed decls number proc (Polls note got label tag sender args rest))
    (λ w. (w.0.0, w.0.1.0.0, w.0.1.0.1, w.0.1.1, w.1)) (λ r. ((r.0, ((r.1, r.2), r.3)), r.4))
    (two (two (note_says decls (proc_variables proc) note) (two (received_says decls label tag (length args)) (targets_say proc (got ∷ sender ∷ args)))) (block_says decls number proc rest))
block_says decls number proc (Reads note into label field index rest) =
    said ((IsFileFormula decls (proc_variables proc) note × ((is_field (file_label decls.inst (At label)) field (is_some index) ≡ true) ×
    (IsIndex (IsExpression (proc_variables proc)) index × AreTargets proc (into ∷ [])))) × BlockIsFormed decls number proc rest)
    (BlockIsFormed decls number proc (Reads note into label field index rest))
    (λ w. (w.0.0, w.0.1.0, w.0.1.1.0, w.0.1.1.1, w.1)) (λ r. ((r.0, (r.1, (r.2, r.3))), r.4))
    (two (two (note_says decls (proc_variables proc) note) (two (itself (is_field (file_label decls.inst (At label)) field (is_some index)))
    (two (index_says (proc_variables proc) decls number proc.locals index) (targets_say proc (into ∷ []))))) (block_says decls number proc rest))
block_says decls number proc (Sets target value rest) =
    said ((AreTargets proc (target ∷ []) × IsExpression (proc_variables proc) value) × BlockIsFormed decls number proc rest)
    (BlockIsFormed decls number proc (Sets target value rest))
    (λ w. (w.0.0, w.0.1, w.1)) (λ r. ((r.0, r.1), r.2))
    (two (two (targets_say proc (target ∷ [])) (value_says (proc_variables proc) value)) (block_says decls number proc rest))
block_says decls number proc (Ifs test left right rest) =
    said ((IsTest (proc_variables proc) test × (BlockIsFormed decls number proc left × BlockIsFormed decls number proc right)) × BlockIsFormed decls number proc rest)
    (BlockIsFormed decls number proc (Ifs test left right rest))
    (λ w. (w.0.0, w.0.1.0, w.0.1.1, w.1)) (λ r. ((r.0, (r.1, r.2)), r.3))
    (two (two (test_says (proc_variables proc) test) (two (block_says decls number proc left) (block_says decls number proc right))) (block_says decls number proc rest))
block_says decls number proc (Whiles test note body rest) =
    said ((IsTest (proc_variables proc) test × (IsFileFormula decls (proc_variables proc) note × BlockIsFormed decls number proc body)) × BlockIsFormed decls number proc rest)
    (BlockIsFormed decls number proc (Whiles test note body rest))
    (λ w. (w.0.0, w.0.1.0, w.0.1.1, w.1)) (λ r. ((r.0, (r.1, r.2)), r.3))
    (two (two (test_says (proc_variables proc) test) (two (note_says decls (proc_variables proc) note) (block_says decls number proc body))) (block_says decls number proc rest))
block_says decls number proc (Calls note frame into callee args rest) =
    said ((IsFileFormula decls (proc_variables proc) note × (IsFileFormula decls (proc_variables proc) frame × (AreTargets proc (into ∷ []) ×
    ((callee < number) × ((length args ≡ length (proc_at decls.procs callee).params) × Each (IsExpression (proc_variables proc)) args))))) × BlockIsFormed decls number proc rest)
    (BlockIsFormed decls number proc (Calls note frame into callee args rest))
    (λ w. (w.0.0, w.0.1.0, w.0.1.1.0, w.0.1.1.1.0, w.0.1.1.1.1.0, w.0.1.1.1.1.1, w.1)) (λ r. ((r.0, (r.1, (r.2, (r.3, (r.4, r.5))))), r.6))
    (two (two (note_says decls (proc_variables proc) note) (two (note_says decls (proc_variables proc) frame) (two (targets_say proc (into ∷ []))
    (two (below callee number) (two (equal (length args) (length (proc_at decls.procs callee).params)) (values_say (proc_variables proc) args)))))) (block_says decls number proc rest))

-- ---- a command and what follows it

row_blocks : (n : _) (row : Row_of-Command n) → block_of (items-the_row-Command n row) ≡ row_block row
row_blocks n end_of-Command = refl
row_blocks n (more_of-Command command rest) = ap (followed command) (row_blocks _ rest)

followed-formed : (sight : Sight) (command : Command) (rest : Block) → block_is_formed sight (followed command rest) ≡ (command_is_formed sight command && block_is_formed sight rest)
followed-formed sight (Send note label tag to args) rest = refl
followed-formed sight (Await note label tag sender args) rest = refl
followed-formed sight (Poll note got label tag sender args) rest = refl
followed-formed sight (Read note into label field index) rest = refl
followed-formed sight (Set target value) rest = refl
followed-formed sight (If' test s left t right) rest = refl
followed-formed sight (While' test note s body) rest = refl
followed-formed sight (Call note frame into callee args) rest = refl

pub commands-formed : (sight : Sight) (commands : List Command) → list_all (command_is_formed sight) commands ≡ block_is_formed sight (block_of commands)
commands-formed sight [] = refl
commands-formed sight (command ∷ commands) =
    ap (λ b. command_is_formed sight command && b) (commands-formed sight commands) ∙ sym (followed-formed sight command (block_of commands))

and-shift : (a b c : Bool) → (a && (b && c)) ≡ ((a && b) && c)
and-shift true b c = refl
and-shift false b c = refl

followed-apart : (names : List ℕ) (command : Command) (rest : Block) → block_is_apart names (followed command rest) ≡ (command_is_apart names command && block_is_apart names rest)
followed-apart names (Send note label tag to args) rest = refl
followed-apart names (Await note label tag sender args) rest = refl
followed-apart names (Poll note got label tag sender args) rest = refl
followed-apart names (Read note into label field index) rest = refl
followed-apart names (Set target value) rest = refl
followed-apart names (If' test s left t right) rest = and-shift (block_is_apart names (row_block left)) (block_is_apart names (row_block right)) (block_is_apart names rest)
followed-apart names (While' test note s body) rest = and-shift (formula_is_apart names note) (block_is_apart names (row_block body)) (block_is_apart names rest)
followed-apart names (Call note frame into callee args) rest = and-shift (formula_is_apart names note) (formula_is_apart names frame) (block_is_apart names rest)

pub commands-apart : (names : List ℕ) (commands : List Command) → list_all (command_is_apart names) commands ≡ block_is_apart names (block_of commands)
commands-apart names [] = refl
commands-apart names (command ∷ commands) =
    ap (λ b. command_is_apart names command && b) (commands-apart names commands) ∙ sym (followed-apart names command (block_of commands))

followed-points : (command : Command) (rest : Block) → points (followed command rest) ≡ command_points command + points rest
followed-points (Send note label tag to args) rest = refl
followed-points (Await note label tag sender args) rest = refl
followed-points (Poll note got label tag sender args) rest = refl
followed-points (Read note into label field index) rest = refl
followed-points (Set target value) rest = omega arith
followed-points (If' test s left t right) rest = refl
followed-points (While' test note s body) rest = omega arith
followed-points (Call note frame into callee args) rest = refl

pub commands-points : (commands : List Command) → points_of commands ≡ points (block_of commands)
commands-points [] = refl
commands-points (command ∷ commands) = ap (λ n. command_points command + n) (commands-points commands) ∙ sym (followed-points command (block_of commands))

body_says : (decls : Decls) (number : ℕ) (proc : Proc) → Says (list_all (command_is_formed (proc_sight decls number proc)) proc.body) (BlockIsFormed decls number proc (block_of proc.body))
body_says decls number proc =
    let sight = proc_sight decls number proc in
    let P : Type 0 = BlockIsFormed decls number proc (block_of proc.body) in
    subst (λ (b : Bool). Says b P) (sym (commands-formed sight proc.body)) (block_says decls number proc (block_of proc.body))

-- ---- procedures

pub proc_says : (decls : Decls) (number : ℕ) (proc : Proc) → Says (proc_is_formed decls number proc) (ProcIsFormed decls number proc)
proc_says decls number proc =
    said ((proc.world < length decls.worlds) × ((AreParameters proc.params × ((length proc.locals ≤ 16) × AreNames (arg_names proc.params ++ proc.locals))) ×
    ((IsFileFormula decls (me_word ∷ arg_names proc.params) proc.pre × IsFileFormula decls (result_word ∷ me_word ∷ arg_names proc.params) proc.post) ×
    (BlockIsFormed decls number proc (block_of proc.body) × IsExpression (proc_variables proc) proc.result))))
    (ProcIsFormed decls number proc)
    (λ w. record { world = w.0; params = w.1.0.0; few_locals = w.1.0.1.0; names = w.1.0.1.1; pre = w.1.1.0.0; post = w.1.1.0.1; body = w.1.1.1.0; result = w.1.1.1.1 })
    (λ r. (r.world, ((r.params, (r.few_locals, r.names)), ((r.pre, r.post), (r.body, r.result)))))
    (two (below proc.world (length decls.worlds))
    (two (two (parameters_say proc.params) (two (at_most (length proc.locals) 16) (names_say (arg_names proc.params ++ proc.locals))))
    (two (two (note_says decls (me_word ∷ arg_names proc.params) proc.pre) (note_says decls (result_word ∷ me_word ∷ arg_names proc.params) proc.post))
    (two (body_says decls number proc) (value_says (proc_variables proc) proc.result)))))

abbrev Numbered : Decls → ℕ → List Proc → Type 0
Numbered decls number procs = (i : ℕ) (proc : Proc) → slice_get procs i ≡ Some proc → ProcIsFormed decls (i + number) proc

numbered-there : (decls : Decls) (number : ℕ) (procs : List Proc) → procs_are_formed decls number procs ≡ true → Numbered decls number procs
numbered-there decls number [] e i proc h = absurd (cc h)
numbered-there decls number (first ∷ procs) e zero proc h =
    let w = and_parts (proc_is_formed decls number first) (procs_are_formed decls (number + 1) procs) e in
    let same : first ≡ proc = cc h in
    let shift : number ≡ 0 + number = omega arith in
    subst (λ k. ProcIsFormed decls k proc) shift (subst (ProcIsFormed decls number) same ((proc_says decls number first).there w.0))
numbered-there decls number (first ∷ procs) e (suc i) proc h =
    let w = and_parts (proc_is_formed decls number first) (procs_are_formed decls (number + 1) procs) e in
    let shift : i + (number + 1) ≡ suc i + number = omega arith in
    subst (λ k. ProcIsFormed decls k proc) shift (numbered-there decls (number + 1) procs w.1 i proc h)

numbered-back : (decls : Decls) (number : ℕ) (procs : List Proc) → Numbered decls number procs → procs_are_formed decls number procs ≡ true
numbered-back decls number [] h = refl
numbered-back decls number (first ∷ procs) h =
    let shift : 0 + number ≡ number = omega arith in
    let here : ProcIsFormed decls number first = subst (λ k. ProcIsFormed decls k first) shift (h 0 first refl) in
    let later : Numbered decls (number + 1) procs = λ i proc e.
    let next : suc i + number ≡ i + (number + 1) = omega arith in
    subst (λ k. ProcIsFormed decls k proc) next (h (suc i) proc e) in
    and_from (proc_is_formed decls number first) (procs_are_formed decls (number + 1) procs) ((proc_says decls number first).back here) (numbered-back decls (number + 1) procs later)

abbrev ProcsAreFormed : Decls → Type 0
ProcsAreFormed decls = (number : ℕ) (proc : Proc) → slice_get decls.procs number ≡ Some proc → ProcIsFormed decls number proc

pub procs_say : (decls : Decls) → Says (procs_are_formed decls 0 decls.procs) (ProcsAreFormed decls)
procs_say decls = record {
  there = λ e number proc h. let shift : number + 0 ≡ number = omega arith in subst (λ k. ProcIsFormed decls k proc) shift (numbered-there decls 0 decls.procs e number proc h);
  back = λ w. numbered-back decls 0 decls.procs (λ i proc h. let shift : i ≡ i + 0 = omega arith in subst (λ k. ProcIsFormed decls k proc) shift (w i proc h));
}

-- ---- the deployment

program_says : (decls : Decls) (program : Program) → Says (program_is_formed decls program) (ProgramIsFormed decls program)
program_says decls program =
    said ((program.node < decls.inst.nodes) × ((program.proc < length decls.procs) × (all_in_sorts (arg_sorts (proc_at decls.procs program.proc).params) program.constants ≡ true)))
    (ProgramIsFormed decls program)
    (λ w. record { node = w.0; proc = w.1.0; constants = w.1.1 }) (λ r. (r.node, (r.proc, r.constants)))
    (two (below program.node decls.inst.nodes) (two (below program.proc (length decls.procs)) (itself (all_in_sorts (arg_sorts (proc_at decls.procs program.proc).params) program.constants))))

pub deployment_says : (decls : Decls) (deploy : Option Deploy) → Says (deployment_is_formed decls deploy) (DeployIsFormed decls deploy)
deployment_says decls (Some deploy) =
    said ((deploy.world < length decls.worlds) × (Each (ProgramIsFormed decls) deploy.programs × AreDistinct (map (λ (program : Program). program.node) deploy.programs)))
    (DeployIsFormed decls (Some deploy)) (λ w. (w.0, w.1.0, w.1.1)) (λ r. (r.0, (r.1, r.2)))
    (two (below deploy.world (length decls.worlds)) (two (each (program_is_formed decls) (ProgramIsFormed decls) (program_says decls) deploy.programs)
    (distinct_says (map (λ (program : Program). program.node) deploy.programs))))
deployment_says decls None = always

-- ---- names

block_apart : (names : List ℕ) (block : Block) → Says (block_is_apart names block) (Each (IsOther names) (block_bound block))
block_apart names Done = record { there = λ e. tt; back = λ u. refl }
block_apart names (Sends note label tag to args rest) = joined (IsOther names) (bound_names note) (block_bound rest) (apart names note) (block_apart names rest)
block_apart names (Awaits note label tag sender args rest) = joined (IsOther names) (bound_names note) (block_bound rest) (apart names note) (block_apart names rest)
block_apart names (Polls note got label tag sender args rest) = joined (IsOther names) (bound_names note) (block_bound rest) (apart names note) (block_apart names rest)
block_apart names (Reads note into label field index rest) = joined (IsOther names) (bound_names note) (block_bound rest) (apart names note) (block_apart names rest)
block_apart names (Sets target value rest) = block_apart names rest
block_apart names (Ifs test left right rest) =
    joined (IsOther names) (block_bound left) (block_bound right ++ block_bound rest) (block_apart names left)
    (joined (IsOther names) (block_bound right) (block_bound rest) (block_apart names right) (block_apart names rest))
block_apart names (Whiles test note body rest) =
    joined (IsOther names) (bound_names note) (block_bound body ++ block_bound rest) (apart names note)
    (joined (IsOther names) (block_bound body) (block_bound rest) (block_apart names body) (block_apart names rest))
block_apart names (Calls note frame into callee args rest) =
    joined (IsOther names) (bound_names note) (bound_names frame ++ block_bound rest) (apart names note)
    (joined (IsOther names) (bound_names frame) (block_bound rest) (apart names frame) (block_apart names rest))

pub proc_apart : (names : List ℕ) (proc : Proc) →
    Says (proc_is_apart names proc) (Each (IsOther names) (bound_names proc.pre ++ (bound_names proc.post ++ block_bound (block_of proc.body))))
proc_apart names proc =
    joined (IsOther names) (bound_names proc.pre) (bound_names proc.post ++ block_bound (block_of proc.body)) (apart names proc.pre)
    (joined (IsOther names) (bound_names proc.post) (block_bound (block_of proc.body)) (apart names proc.post)
    (subst (λ (b : Bool). Says b (Each (IsOther names) (block_bound (block_of proc.body)))) (sym (commands-apart names proc.body)) (block_apart names (block_of proc.body))))

-- ---- the commands in a command

abbrev yes_row : Command → (n : _) × Row_of-Command n
yes_row (If' test s left t right) = (_, left)
yes_row _ = (_, end_of-Command)

abbrev no_row : Command → (n : _) × Row_of-Command n
no_row (If' test s left t right) = (_, right)
no_row _ = (_, end_of-Command)

abbrev body_row : Command → (n : _) × Row_of-Command n
body_row (While' test note s body) = (_, body)
body_row _ = (_, end_of-Command)

yes-block : (test : Formula) (chosen other : List Command) → row_block (yes_row (IfOf test chosen other)).1 ≡ block_of chosen
yes-block test chosen other = let row = yes_row (IfOf test chosen other) in sym (row_blocks row.0 row.1) ∙ ap block_of (items_hidden-the_row-Command-0 chosen)

no-block : (test : Formula) (chosen other : List Command) → row_block (no_row (IfOf test chosen other)).1 ≡ block_of other
no-block test chosen other = let row = no_row (IfOf test chosen other) in sym (row_blocks row.0 row.1) ∙ ap block_of (items_hidden-the_row-Command-0 other)

body-block : (test note : Formula) (body : List Command) → row_block (body_row (WhileOf test note body)).1 ≡ block_of body
body-block test note body = let row = body_row (WhileOf test note body) in sym (row_blocks row.0 row.1) ∙ ap block_of (items_hidden-the_row-Command-0 body)

pub if-formed : (sight : Sight) (test : Formula) (chosen other : List Command) →
    command_is_formed sight (IfOf test chosen other) ≡ (is_test sight test && (list_all (command_is_formed sight) chosen && list_all (command_is_formed sight) other))
if-formed sight test chosen other =
    ap (λ b. is_test sight test && (block_is_formed sight b && block_is_formed sight (row_block (no_row (IfOf test chosen other)).1))) (yes-block test chosen other)
    ∙ ap (λ b. is_test sight test && (block_is_formed sight (block_of chosen) && block_is_formed sight b)) (no-block test chosen other)
    ∙ ap (λ b. is_test sight test && (b && block_is_formed sight (block_of other))) (sym (commands-formed sight chosen))
    ∙ ap (λ b. is_test sight test && (list_all (command_is_formed sight) chosen && b)) (sym (commands-formed sight other))

pub while-formed : (sight : Sight) (test note : Formula) (body : List Command) →
    command_is_formed sight (WhileOf test note body) ≡ (is_test sight test && (is_note sight note && list_all (command_is_formed sight) body))
while-formed sight test note body =
    ap (λ b. is_test sight test && (is_note sight note && block_is_formed sight b)) (body-block test note body)
    ∙ ap (λ b. is_test sight test && (is_note sight note && b)) (sym (commands-formed sight body))

pub if-apart : (names : List ℕ) (test : Formula) (chosen other : List Command) →
    command_is_apart names (IfOf test chosen other) ≡ (list_all (command_is_apart names) chosen && list_all (command_is_apart names) other)
if-apart names test chosen other =
    ap (λ b. block_is_apart names b && block_is_apart names (row_block (no_row (IfOf test chosen other)).1)) (yes-block test chosen other)
    ∙ ap (λ b. block_is_apart names (block_of chosen) && block_is_apart names b) (no-block test chosen other)
    ∙ ap (λ b. b && block_is_apart names (block_of other)) (sym (commands-apart names chosen))
    ∙ ap (λ b. list_all (command_is_apart names) chosen && b) (sym (commands-apart names other))

pub while-apart : (names : List ℕ) (test note : Formula) (body : List Command) →
    command_is_apart names (WhileOf test note body) ≡ (formula_is_apart names note && list_all (command_is_apart names) body)
while-apart names test note body =
    ap (λ b. formula_is_apart names note && block_is_apart names b) (body-block test note body)
    ∙ ap (λ b. formula_is_apart names note && b) (sym (commands-apart names body))

pub if-points : (test : Formula) (chosen other : List Command) → command_points (IfOf test chosen other) ≡ points_of chosen + points_of other
if-points test chosen other =
    ap (λ b. points b + points (row_block (no_row (IfOf test chosen other)).1)) (yes-block test chosen other)
    ∙ ap (λ b. points (block_of chosen) + points b) (no-block test chosen other)
    ∙ ap (λ n. n + points (block_of other)) (sym (commands-points chosen))
    ∙ ap (λ n. points_of chosen + n) (sym (commands-points other))

pub while-points : (test note : Formula) (body : List Command) → command_points (WhileOf test note body) ≡ 1 + points_of body
while-points test note body = ap (λ b. 1 + points b) (body-block test note body) ∙ ap (λ n. 1 + n) (sym (commands-points body))

-- ---- procedures by number

shifted : (a b : ℕ) → nat_lt (suc a) (suc b) ≡ nat_lt a b
shifted a b = go (nat_lt a b) refl
  where
    go : (t : Bool) → nat_lt a b ≡ t → nat_lt (suc a) (suc b) ≡ nat_lt a b
    go true e = lt-ltb (suc a) (suc b) (omega (arith, ltb-true a b e)) ∙ sym e
    go false e = le-ltb (suc a) (suc b) (omega (arith, ltb-false a b e)) ∙ sym e

pub constants-there : (procs : List Proc) (number : ℕ) (proc : Proc) (constants : List ℤ) → slice_get procs number ≡ Some proc →
    has_constants procs number constants ≡ all_in_sorts (arg_sorts proc.params) constants
constants-there [] number proc constants e = absurd (cc e)
constants-there (first ∷ procs) zero proc constants e =
    let same : first ≡ proc = cc e in
    ap (λ b. b && all_in_sorts (arg_sorts first.params) constants) (lt-ltb 0 (length (first ∷ procs)) (omega arith)) ∙ ap (λ (p : Proc). all_in_sorts (arg_sorts p.params) constants) same
constants-there (first ∷ procs) (suc number) proc constants e =
    ap (λ b. b && all_in_sorts (arg_sorts (proc_at procs number).params) constants) (shifted number (length procs)) ∙ constants-there procs number proc constants e

pub constants-nowhere : (procs : List Proc) (number : ℕ) (constants : List ℤ) → slice_get procs number ≡ None → has_constants procs number constants ≡ false
constants-nowhere [] number constants e = ap (λ b. b && all_in_sorts (arg_sorts (proc_at [] number).params) constants) (le-ltb number 0 (omega arith))
constants-nowhere (first ∷ procs) zero constants e = absurd (cc e)
constants-nowhere (first ∷ procs) (suc number) constants e =
    ap (λ b. b && all_in_sorts (arg_sorts (proc_at procs number).params) constants) (shifted number (length procs)) ∙ constants-nowhere procs number constants e

-- ---- constants

and-false : (b : Bool) → (b && false) ≡ false
and-false true = refl
and-false false = refl

pub sorts-differ : (params : List Parameter) (constants : List ℤ) → (length params ≡ length constants → ⊥) → all_in_sorts (arg_sorts params) constants ≡ false
sorts-differ [] [] h = absurd (h refl)
sorts-differ [] (v ∷ vs) h = refl
sorts-differ (param ∷ params) [] h = refl
sorts-differ (param ∷ params) (v ∷ vs) h = ap (λ b. in_sort param.1 v && b) (sorts-differ params vs (λ e. h (ap suc e))) ∙ and-false (in_sort param.1 v)

pub sorts-here : (params : List Parameter) (constants : List ℤ) (i : ℕ) (d : Parameter) (e : ℤ) → i < length params → i < length constants →
    all_in_sorts (arg_sorts (drop i params)) (drop i constants)
    ≡ (in_sort (get_or params i d).1 (get_or constants i e) && all_in_sorts (arg_sorts (drop (i + 1) params)) (drop (i + 1) constants))
sorts-here params constants i d e h k =
    ap (λ (ps : List Parameter). all_in_sorts (arg_sorts ps) (drop i constants)) (drop_more params i d h)
    ∙ ap (λ (vs : List ℤ). all_in_sorts (arg_sorts (get_or params i d ∷ drop (i + 1) params)) vs) (drop_more constants i e k)

pub points-agree : (procs : List Proc) → points_of_procs procs ≡ all_points procs
points-agree [] = refl
points-agree (proc ∷ procs) = ap (λ n. n + points_of_procs procs) (commands-points proc.body) ∙ ap (λ n. points (block_of proc.body) + n) (points-agree procs)

-- ---- steps of code

pub fails-first : (a b x : Bool) → x ≡ a → x ≡ false → false ≡ (a && b)
fails-first a b x e f = sym (ap (λ v. v && b) (sym e ∙ f))

pub fails-second : (a b x y : Bool) → x ≡ a → x ≡ true → y ≡ b → y ≡ false → false ≡ (a && b)
fails-second a b x y e f g h = sym (ap (λ v. v && b) (sym e ∙ f) ∙ (sym g ∙ h))

pub passes-on : (a b x y : Bool) → x ≡ a → x ≡ true → y ≡ b → y ≡ (a && b)
passes-on a b x y e f g = g ∙ sym (ap (λ v. v && b) (sym e ∙ f))

procs-here : (decls : Decls) (number : ℕ) (procs : List Proc) (i : ℕ) (d : Proc) → i < length procs →
    procs_are_formed decls number (drop i procs) ≡ (proc_is_formed decls number (get_or procs i d) && procs_are_formed decls (number + 1) (drop (i + 1) procs))
procs-here decls number procs i d h = ap (procs_are_formed decls number) (drop_more procs i d h)

pub proc-fails : (decls : Decls) (number : ℕ) (procs : List Proc) (i : ℕ) (proc : Proc) (b : Bool) → i < length procs → proc ≡ get_or procs i proc → b ≡ proc_is_formed decls number proc → b ≡ false →
    procs_are_formed decls number (drop i procs) ≡ procs_are_formed decls 0 procs → false ≡ procs_are_formed decls 0 procs
proc-fails decls number procs i proc b h is e f g =
    let here : b ≡ proc_is_formed decls number (get_or procs i proc) = e ∙ ap (proc_is_formed decls number) is in
    fails-first (proc_is_formed decls number (get_or procs i proc)) (procs_are_formed decls (number + 1) (drop (i + 1) procs)) b here f
    ∙ (sym (procs-here decls number procs i proc h) ∙ g)

pub proc-passes : (decls : Decls) (number : ℕ) (procs : List Proc) (i : ℕ) (proc : Proc) (b : Bool) → i < length procs → proc ≡ get_or procs i proc → b ≡ proc_is_formed decls number proc → b ≡ true →
    procs_are_formed decls number (drop i procs) ≡ procs_are_formed decls 0 procs → procs_are_formed decls (number + 1) (drop (i + 1) procs) ≡ procs_are_formed decls 0 procs
proc-passes decls number procs i proc b h is e f g =
    let here : b ≡ proc_is_formed decls number (get_or procs i proc) = e ∙ ap (proc_is_formed decls number) is in
    passes-on (proc_is_formed decls number (get_or procs i proc)) (procs_are_formed decls (number + 1) (drop (i + 1) procs)) b (procs_are_formed decls (number + 1) (drop (i + 1) procs)) here f refl
    ∙ (sym (procs-here decls number procs i proc h) ∙ g)

-- sums that stop at the greatest number of 64 bits
pub sum-ends : {X : Type 0} (f : List X → ℕ) (xs : List X) (i points : ℕ) → f [] ≡ 0 → length xs ≤ i → points ≤ 18446744073709551615 →
    min (points + f (drop i xs)) 18446744073709551615 ≡ min (f xs) 18446744073709551615 → points ≡ min (f xs) 18446744073709551615
sum-ends f xs i points z h m e = let rest : f (drop i xs) ≡ 0 = ap f (drop_all i xs h) ∙ z in omega arith

pub sum-here : {X : Type 0} (f : List X → ℕ) (g : X → ℕ) (xs : List X) (i points : ℕ) (x : X) (p new : ℕ) → ((y : X) (ys : List X) → f (y ∷ ys) ≡ g y + f ys) → i < length xs →
    x ≡ get_or xs i x → p ≡ min (g x) 18446744073709551615 → new ≡ min (p + points) 18446744073709551615 →
    min (points + f (drop i xs)) 18446744073709551615 ≡ min (f xs) 18446744073709551615 →
    min (new + f (drop (i + 1) xs)) 18446744073709551615 ≡ min (f xs) 18446744073709551615
sum-here f g xs i points x p new step h is e k inv =
    let rest : f (drop i xs) ≡ g (get_or xs i x) + f (drop (i + 1) xs) = ap f (drop_more xs i x h) ∙ step (get_or xs i x) (drop (i + 1) xs) in
    let same : g (get_or xs i x) ≡ g x = ap g (sym is) in
    omega arith
