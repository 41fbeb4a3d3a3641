-- The obligations of procedures and of the deployment, as sequents.
use Rattle.std.specs.Prelude.{ℕ, zero, suc, pos, negsuc, Bool, true, false, List, [], ◌∷◌, ◌++◌, Option, Some, None, map, length}
use Rattle.dl_term.specs.declared.syntax.Lab.TheVariants.{Own, At}
use Rattle.dl_term.specs.declared.syntax.Part.TheVariants.{From}
use Rattle.dl_term.specs.declared.syntax.Sort.{Sort}
use Rattle.dl_term.specs.declared.syntax.Term.{Term, Num, Var, Field, Row, Msg}
use Rattle.dl_term.specs.declared.syntax.Formula.{Formula, Eq, Not}
use Rattle.dl_model.specs.declared.protocol.Instances.{Instances}
use Rattle.dl_model.specs.declared.sequent.Hypothesis.{Hypothesis}
use Rattle.dl_model.specs.declared.sequent.Sequent.{Sequent}
use Rattle.dl_model.specs.declared.program.Proc.{Proc}
use Rattle.dl_model.specs.declared.file.World.{World}
use Rattle.dl_model.specs.declared.file.Program.{Program}
use Rattle.dl_model.specs.declared.file.Decls.{Decls}
use Rattle.dl_model.specs.Block.{Block, Sends, Awaits, Polls, Reads, Whiles, Calls, block_of}
use Rattle.dl_model.specs.Lookup.{Parameter, arg_names, arg_sorts, proc_at, program_of, world_at}
use Rattle.dl_model.specs.Words.{me_word, to_word, result_word}
use Rattle.dl_sequent.specs.Bounds.{node_sort, in_sort_formula}
use Rattle.dl_sequent.specs.declared.duty.Duty.{Duty}
use Rattle.dl_sequent.specs.declared.duty.Duty.TheVariants.{Start, Guard, AfterSend, Got, Miss, AfterRead, Body, Exit, Enter, Leave, Stable, Frame, Deploy}
use Rattle.dl_subst.specs.Substitution.{substituted, terms_put}
use Rattle.dl_wp.specs.declared.steps.SendStep.{SendStep}
use Rattle.dl_wp.specs.declared.steps.ReceiveStep.{ReceiveStep}
use Rattle.dl_wp.specs.Steps.{send_step, args_of_message, spoken_of}
use Rattle.dl_wp.specs.Before.{before_sent, before_received}
use Rattle.dl_wp.specs.First.{at_first}
use Rattle.dl_inv.specs.Words.{guard_word}
use Rattle.dl_inv.specs.Joined.{all_of}
use Rattle.dl_inv.specs.Steps.{called, name_at, send_by, receive_by, in_step, all_fit, all_hooks, tag_of, send_hypotheses, receive_hypotheses}
use Rattle.dl_inv.specs.Facts.{facts_of}
use Rattle.dl_inv.specs.Obligations.{known, shows, with_sort, send_known, receive_known, hooks_fact}
use Rattle.dl_triples.specs.Words.{pre_word, other_word, test_word, post_word, frame_word}
use Rattle.dl_triples.specs.Points.{Point, pre_of, post_of, point_at, note_of, frame_of, next_of}

-- ---- what an obligation of a procedure knows

abbrev pub int_sort : Sort
int_sort = record { low = negsuc 0x7fff_ffff_ffff_ffff; high = pos 0x7fff_ffff_ffff_ffff }

-- the node, the parameters and the locals
abbrev pub vars_of : Decls → Proc → List Parameter
vars_of decls proc = with_sort (node_sort decls.inst.nodes) me_word ∷ (proc.params ++ map (with_sort int_sort) proc.locals)

-- all facts of the world of the procedure
abbrev pub facts_in : Decls → Proc → List Hypothesis
facts_in decls proc = facts_of decls (length decls.invariants) (world_at decls proc.world)

-- the facts, and the formula that holds there
abbrev pub facts_at : Decls → Proc → Formula → List Hypothesis
facts_at decls proc f = facts_in decls proc ++ called pre_word f ∷ []

abbrev pub known_in : Decls → Proc → Sequent
known_in decls proc = known (vars_of decls proc) [] None

-- where the formula holds, and besides these hypotheses, the goal holds
abbrev pub holds_where : Decls → Proc → Formula → (more : List Hypothesis) → Formula → Sequent
holds_where decls proc f more goal = shows (known_in decls proc) (facts_at decls proc f ++ more) goal

-- ---- terms for names

-- these terms for these names, all at once
abbrev pub put : Formula → List ℕ → List Term → Formula
put f names terms = terms_put f names terms Own

-- each term is in its sort
abbrev pub all_in_sort : Instances → Sequent → List Term → List Sort → List Formula
all_in_sort inst given (t ∷ ts) (sort ∷ sorts) = in_sort_formula inst given t sort ∷ all_in_sort inst given ts sorts
all_in_sort inst given _ _ = []

-- ---- at the beginning

-- What the body asks for first holds where the precondition does. Each local is 0.
abbrev pub start_sequent : Decls → Proc → Sequent
start_sequent decls proc = holds_where decls proc proc.pre [] (put (pre_of (block_of proc.body) (post_of proc)) proc.locals [])

-- ---- sends

-- the send of a procedure, by the node itself
abbrev pub sending : (label tag : ℕ) → Term → List Term → SendStep
sending label tag to args = record { label = At label; tag = tag; sender = Var me_word; to = to; args = args }

-- its guard, and that what it updates is in its sort
abbrev pub send_rule : Decls → Sequent → ℕ → ℕ → SendStep → List Formula
send_rule decls given label tag step =
    let declared = tag_of decls.inst None (At label) tag in
    in_step (At label) step.sender to_word step.to (arg_names declared.args) step.args declared.send.guard
    ∷ all_fit decls.inst given (send_step decls.inst None step) (spoken_of decls.inst None (At label)) declared.send.updates ∷ []

-- The send is allowed: the addressee is a node, the arguments are in their sorts, the guard holds, what is updated is in its sort,
-- and the hooks of the world are met.
abbrev pub allowed : Decls → World → Sequent → ℕ → ℕ → SendStep → Formula
allowed decls world given label tag step =
    all_of (in_sort_formula decls.inst given step.to (node_sort decls.inst.nodes)
    ∷ (all_in_sort decls.inst given step.args (arg_sorts (tag_of decls.inst None (At label) tag).args)
    ++ (send_rule decls given label tag step ++ all_hooks decls world label tag step ∷ [])))

abbrev pub allowed_in : Decls → Proc → ℕ → ℕ → SendStep → Formula
allowed_in decls proc label tag step = allowed decls (world_at decls proc.world) (known_in decls proc) label tag step

-- The send is allowed where the annotation holds.
abbrev pub guard_sequent : Decls → Proc → Formula → ℕ → ℕ → SendStep → Sequent
guard_sequent decls proc note label tag step = holds_where decls proc note [] (allowed_in decls proc label tag step)

-- What follows holds after the send, which is allowed.
abbrev pub sent_sequent : Decls → Proc → Formula → ℕ → ℕ → SendStep → (next : Formula) → Sequent
sent_sequent decls proc note label tag step next =
    holds_where decls proc note (called guard_word (allowed_in decls proc label tag step) ∷ []) (before_sent decls.inst None step next)

-- ---- receives

-- the receive of the message of this name, by the node itself
abbrev pub taking : (label tag msg : ℕ) → ReceiveStep
taking label tag msg = record { label = At label; tag = tag; receiver = Var me_word; msg = msg }

-- the names of the obligation, and the message
abbrev pub known_with : Decls → Proc → (label tag msg : ℕ) → Sequent
known_with decls proc label tag msg = known (vars_of decls proc) (record { 0 = msg; 1 = label; 2 = tag } ∷ []) None

-- the sender and the arguments of the message
abbrev pub terms_of_message : ℕ → List Term
terms_of_message msg = Msg msg From ∷ args_of_message msg

-- What follows holds after the message is received, and the terms are assigned to the targets.
abbrev pub got_sequent : Decls → Proc → Formula → (label tag msg : ℕ) → (targets : List ℕ) → List Term → (next : Formula) → Sequent
got_sequent decls proc note label tag msg targets terms next =
    let given = known_with decls proc label tag msg in
    let step = taking label tag msg in
    shows given (facts_at decls proc note ++ receive_hypotheses decls.inst given step) (before_received decls.inst None step (put next targets terms))

-- ---- a number for a local

-- What follows holds with the number or the read assigned to the local.
abbrev pub assigned_sequent : Decls → Proc → Formula → ℕ → Term → (next : Formula) → Sequent
assigned_sequent decls proc note into t next = holds_where decls proc note [] (substituted next into t)

-- what is read: an own field, or an own row at the index
abbrev pub term_read : (label field : ℕ) → Option Term → Term
term_read label field None = Field (At label) field (Var me_word)
term_read label field (Some index) = Row (At label) field (Var me_word) index

-- ---- loops

-- With this outcome of the test the goal holds.
abbrev pub tested_sequent : Decls → Proc → Formula → (test goal : Formula) → Sequent
tested_sequent decls proc note test goal = holds_where decls proc note (called test_word test ∷ []) goal

-- ---- calls

-- The arguments are in their sorts, the precondition of the callee holds, and so does what the caller holds on to.
abbrev pub enter_sequent : Decls → Proc → (note frame : Formula) → Proc → List Term → Sequent
enter_sequent decls proc note frame callee args =
    holds_where decls proc note [] (all_of (all_in_sort decls.inst (known_in decls proc) args (arg_sorts callee.params)
    ++ (put callee.pre (arg_names callee.params) args ∷ frame ∷ [])))

-- What follows holds after the call, which returned the number of this name. The annotation may hold no more.
abbrev pub leave_sequent : Decls → Proc → (frame : Formula) → (into : ℕ) → Proc → List Term → (returned : ℕ) → (next : Formula) → Sequent
leave_sequent decls proc frame into callee args returned next =
    shows (known (vars_of decls proc ++ with_sort int_sort returned ∷ []) [] None)
    (facts_in decls proc
    ++ called post_word (put callee.post (result_word ∷ arg_names callee.params) (Var returned ∷ args)) ∷ called frame_word frame ∷ [])
    (substituted next into (Var returned))

-- ---- steps of other nodes

-- these variables, and those of the step
abbrev pub beside : List Parameter → Sequent → Sequent
beside vars given = record given { vars = vars ++ given.vars }

-- another node makes the step
abbrev pub is_other : Term → Hypothesis
is_other node = called other_word (Not (Eq node (Var me_word)))

-- A send by another node keeps the formula.
abbrev pub kept_by_send : Decls → Proc → List Parameter → Formula → (label tag : ℕ) → List ℕ → Sequent
kept_by_send decls proc vars f label tag names =
    let given = beside vars (send_known decls.inst None (At label) tag names) in
    let step = send_by (At label) tag names in
    shows given
    (facts_at decls proc f ++ (is_other step.sender ∷ (send_hypotheses decls.inst given step ++ hooks_fact decls (world_at decls proc.world) label tag names)))
    (before_sent decls.inst None step f)

-- A receive by another node keeps the formula.
abbrev pub kept_by_receive : Decls → Proc → List Parameter → Formula → (label tag : ℕ) → List ℕ → Sequent
kept_by_receive decls proc vars f label tag names =
    let given = beside vars (receive_known decls.inst None (At label) tag names) in
    let step = receive_by (At label) tag names in
    shows given (facts_at decls proc f ++ (is_other step.receiver ∷ receive_hypotheses decls.inst given step)) (before_received decls.inst None step f)

abbrev pub kept_sequent : Decls → Proc → List Parameter → Formula → (label tag : ℕ) → (receive : Bool) → List ℕ → Sequent
kept_sequent decls proc vars f label tag true names = kept_by_receive decls proc vars f label tag names
kept_sequent decls proc vars f label tag false names = kept_by_send decls proc vars f label tag names

-- ---- the deployment

-- The precondition of the node's procedure holds at first, with the node and its constants.
abbrev pub deploy_sequent : Decls → ℕ → Option Program → Sequent
deploy_sequent decls node (Some program) =
    let proc = proc_at decls.procs program.proc in
    shows (known [] [] None) []
    (at_first decls.inst None (put proc.pre (me_word ∷ arg_names proc.params) (Num (pos node) ∷ map (λ v. Num v) program.constants)))
deploy_sequent decls node None = known [] [] None

-- ---- all of them

abbrev pub no_sequent : Sequent
no_sequent = known [] [] None

-- the send at a point is allowed
abbrev pub guard_at : Decls → Proc → Block → Sequent
guard_at decls proc (Sends note label tag to args rest) = guard_sequent decls proc note label tag (sending label tag to args)
guard_at decls proc _ = no_sequent

abbrev pub sent_at : Decls → Proc → Block → (next : Formula) → Sequent
sent_at decls proc (Sends note label tag to args rest) next = sent_sequent decls proc note label tag (sending label tag to args) next
sent_at decls proc _ next = no_sequent

-- A message that a poll gets sets `got` to 1 besides.
abbrev pub got_at : Decls → Proc → Block → (msg : ℕ) → (next : Formula) → Sequent
got_at decls proc (Awaits note label tag sender args rest) msg next = got_sequent decls proc note label tag msg (sender ∷ args) (terms_of_message msg) next
got_at decls proc (Polls note got label tag sender args rest) msg next =
    got_sequent decls proc note label tag msg (got ∷ sender ∷ args) (Num (pos 1) ∷ terms_of_message msg) next
got_at decls proc _ msg next = no_sequent

-- a poll that gets no message sets `got` to 0
abbrev pub missed_at : Decls → Proc → Block → (next : Formula) → Sequent
missed_at decls proc (Polls note got label tag sender args rest) next = assigned_sequent decls proc note got (Num (pos 0)) next
missed_at decls proc _ next = no_sequent

abbrev pub read_at : Decls → Proc → Block → (next : Formula) → Sequent
read_at decls proc (Reads note into label field index rest) next = assigned_sequent decls proc note into (term_read label field index) next
read_at decls proc _ next = no_sequent

abbrev pub body_at : Decls → Proc → Block → Sequent
body_at decls proc (Whiles test note body rest) = tested_sequent decls proc note test (pre_of body note)
body_at decls proc _ = no_sequent

abbrev pub exit_at : Decls → Proc → Block → (next : Formula) → Sequent
exit_at decls proc (Whiles test note body rest) next = tested_sequent decls proc note (Not test) next
exit_at decls proc _ next = no_sequent

abbrev pub enter_at : Decls → Proc → Block → Sequent
enter_at decls proc (Calls note frame into callee args rest) = enter_sequent decls proc note frame (proc_at decls.procs callee) args
enter_at decls proc _ = no_sequent

abbrev pub leave_at : Decls → Proc → Block → (returned : ℕ) → (next : Formula) → Sequent
leave_at decls proc (Calls note frame into callee args rest) returned next = leave_sequent decls proc frame into (proc_at decls.procs callee) args returned next
leave_at decls proc _ returned next = no_sequent

-- The obligation of a point of the procedure.
abbrev pub at_point : Decls → Proc → Duty → List ℕ → Point → Sequent
at_point decls proc (Guard p k) names point = guard_at decls proc point.block
at_point decls proc (AfterSend p k) names point = sent_at decls proc point.block (next_of point)
at_point decls proc (Got p k) names point = got_at decls proc point.block (name_at names 0) (next_of point)
at_point decls proc (Miss p k) names point = missed_at decls proc point.block (next_of point)
at_point decls proc (AfterRead p k) names point = read_at decls proc point.block (next_of point)
at_point decls proc (Body p k) names point = body_at decls proc point.block
at_point decls proc (Exit p k) names point = exit_at decls proc point.block (next_of point)
at_point decls proc (Enter p k) names point = enter_at decls proc point.block
at_point decls proc (Leave p k) names point = leave_at decls proc point.block (name_at names 0) (next_of point)
at_point decls proc (Stable p k label tag receive) names point = kept_sequent decls proc (vars_of decls proc) (note_of point.block) label tag receive names
at_point decls proc (Frame p k label tag receive) names point = kept_sequent decls proc (vars_of decls proc) (frame_of point.block) label tag receive names
at_point decls proc _ names point = no_sequent

abbrev pub in_proc : Decls → ℕ → Proc
in_proc decls proc = proc_at decls.procs proc

-- the obligation of the point with this number
abbrev pub at_number : Decls → ℕ → ℕ → Duty → List ℕ → Sequent
at_number decls p k duty names = at_point decls (in_proc decls p) duty names (point_at (in_proc decls p) k)

-- a step of another node: for the point 0 it keeps the postcondition
abbrev pub stable_sequent : Decls → (p k label tag : ℕ) → (receive : Bool) → List ℕ → Sequent
stable_sequent decls p zero label tag receive names =
    kept_sequent decls (in_proc decls p) (vars_of decls (in_proc decls p) ++ with_sort int_sort result_word ∷ []) (in_proc decls p).post label tag receive names
stable_sequent decls p (suc k) label tag receive names = at_number decls p (suc k) (Stable p (suc k) label tag receive) names

-- The hypotheses and the goal of an obligation that takes these names: the message for `Got`, what was returned for `Leave`, those of
-- the step for a step of another node, and none for the others.
abbrev pub sequent_of : Decls → Duty → List ℕ → Sequent
sequent_of decls (Start p) names = start_sequent decls (in_proc decls p)
sequent_of decls (Guard p k) names = at_number decls p k (Guard p k) names
sequent_of decls (AfterSend p k) names = at_number decls p k (AfterSend p k) names
sequent_of decls (Got p k) names = at_number decls p k (Got p k) names
sequent_of decls (Miss p k) names = at_number decls p k (Miss p k) names
sequent_of decls (AfterRead p k) names = at_number decls p k (AfterRead p k) names
sequent_of decls (Body p k) names = at_number decls p k (Body p k) names
sequent_of decls (Exit p k) names = at_number decls p k (Exit p k) names
sequent_of decls (Enter p k) names = at_number decls p k (Enter p k) names
sequent_of decls (Leave p k) names = at_number decls p k (Leave p k) names
sequent_of decls (Stable p k label tag receive) names = stable_sequent decls p k label tag receive names
sequent_of decls (Frame p k label tag receive) names = at_number decls p k (Frame p k label tag receive) names
sequent_of decls (Deploy node) names = deploy_sequent decls node (program_of decls node)
sequent_of decls _ names = no_sequent
