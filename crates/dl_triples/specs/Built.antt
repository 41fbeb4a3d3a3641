-- Parts of the sequents, as the code builds them, and which names are captured.
use Rattle.std.specs.Prelude.{ℕ, zero, suc, pos, Bool, true, false, List, [], ◌∷◌, ◌++◌, Option, Some, None}
use Rattle.dl_term.specs.declared.syntax.Lab.TheVariants.{At}
use Rattle.dl_term.specs.declared.syntax.Term.{Term, Num}
use Rattle.dl_term.specs.declared.syntax.Formula.{Formula}
use Rattle.dl_model.specs.declared.sequent.Sequent.{Sequent}
use Rattle.dl_model.specs.declared.program.Proc.{Proc}
use Rattle.dl_model.specs.declared.file.World.{World}
use Rattle.dl_model.specs.declared.file.Decls.{Decls}
use Rattle.dl_model.specs.Block.{Block, Done, Sends, Awaits, Polls, Reads, Sets, Ifs, Whiles, Calls}
use Rattle.dl_model.specs.Lookup.{Parameter, arg_names, arg_sorts, program_of}
use Rattle.dl_model.specs.Words.{result_word}
use Rattle.dl_sequent.specs.Bounds.{node_sort, in_sort_formula}
use Rattle.dl_sequent.specs.declared.duty.Duty.{Duty}
use Rattle.dl_sequent.specs.declared.duty.Duty.TheVariants.{Start, Guard, AfterSend, Got, Miss, AfterRead, Body, Exit, Enter, Leave, Stable, Frame, Deploy}
use Rattle.dl_wp.specs.declared.steps.SendStep.{SendStep}
use Rattle.dl_wp.specs.Steps.{send_step, receive_step}
use Rattle.dl_wp.specs.Captures.{captures, nothing_around}
use Rattle.dl_inv.specs.Steps.{name_at, send_by, receive_by, all_hooks, tag_of}
use Rattle.dl_inv.specs.Obligations.{with_sort}
use Rattle.dl_triples.specs.Points.{Point, point_at, note_of, frame_of, next_of}
use Rattle.dl_triples.specs.Obligations.{int_sort, vars_of, put, all_in_sort, send_rule, sending, taking, terms_of_message, in_proc, deploy_sequent, no_sequent, start_sequent, guard_at, sent_at, got_at, missed_at, read_at, body_at, exit_at, enter_at, leave_at, kept_sequent}

-- ---- variables

-- the variables, and besides what a procedure returns
abbrev pub vars_after : Decls → Proc → (returned : ℕ) → List Parameter
vars_after decls proc returned = vars_of decls proc ++ with_sort int_sort returned ∷ []

-- the variables at a point, which for the point 0 have the result besides
abbrev pub vars_at : Decls → Proc → ℕ → List Parameter
vars_at decls proc zero = vars_after decls proc result_word
vars_at decls proc (suc k) = vars_of decls proc

-- ---- what is joined into one formula

-- what makes a send allowed
abbrev pub allowed_parts : Decls → World → Sequent → ℕ → ℕ → SendStep → List Formula
allowed_parts decls world given label tag step =
    in_sort_formula decls.inst given step.to (node_sort decls.inst.nodes)
    ∷ (all_in_sort decls.inst given step.args (arg_sorts (tag_of decls.inst None (At label) tag).args)
    ++ (send_rule decls given label tag step ++ all_hooks decls world label tag step ∷ []))

-- what a call has to meet
abbrev pub entered_parts : Decls → Sequent → (frame : Formula) → Proc → List Term → List Formula
entered_parts decls given frame callee args =
    all_in_sort decls.inst given args (arg_sorts callee.params) ++ (put callee.pre (arg_names callee.params) args ∷ frame ∷ [])

-- ---- captured names

abbrev pub step_captures : Decls → Formula → (label tag : ℕ) → (receive : Bool) → List ℕ → Bool
step_captures decls f label tag true names = captures (receive_step decls.inst None (receive_by (At label) tag names)) nothing_around f
step_captures decls f label tag false names = captures (send_step decls.inst None (send_by (At label) tag names)) nothing_around f

abbrev pub send_captures : Decls → Block → (next : Formula) → Bool
send_captures decls (Sends note label tag to args rest) next = captures (send_step decls.inst None (sending label tag to args)) nothing_around next
send_captures decls _ next = false

-- the receive of the message, where these targets have these terms
abbrev pub receive_captures : Decls → (label tag msg : ℕ) → List ℕ → List Term → (next : Formula) → Bool
receive_captures decls label tag msg targets terms next = captures (receive_step decls.inst None (taking label tag msg)) nothing_around (put next targets terms)

abbrev pub got_captures : Decls → Block → (msg : ℕ) → (next : Formula) → Bool
got_captures decls (Awaits note label tag sender args rest) msg next = receive_captures decls label tag msg (sender ∷ args) (terms_of_message msg) next
got_captures decls (Polls note got label tag sender args rest) msg next =
    receive_captures decls label tag msg (got ∷ sender ∷ args) (Num (pos 1) ∷ terms_of_message msg) next
got_captures decls _ msg next = false

-- what has to stay: the annotation of the point, or the postcondition for the point 0
abbrev pub stays_at : Proc → ℕ → Formula
stays_at proc zero = proc.post
stays_at proc (suc k) = note_of (point_at proc (suc k)).block

-- A name that the step of an obligation of a procedure has is bound around a place of the formula where it is put.
abbrev pub captured_in : Decls → Proc → Duty → List ℕ → Bool
captured_in decls proc (AfterSend p k) names = send_captures decls (point_at proc k).block (next_of (point_at proc k))
captured_in decls proc (Got p k) names = got_captures decls (point_at proc k).block (name_at names 0) (next_of (point_at proc k))
captured_in decls proc (Stable p k label tag receive) names = step_captures decls (stays_at proc k) label tag receive names
captured_in decls proc (Frame p k label tag receive) names = step_captures decls (frame_of (point_at proc k).block) label tag receive names
captured_in decls proc _ names = false

-- the same for an obligation
abbrev pub captured : Decls → Duty → List ℕ → Bool
captured decls (AfterSend p k) names = captured_in decls (in_proc decls p) (AfterSend p k) names
captured decls (Got p k) names = captured_in decls (in_proc decls p) (Got p k) names
captured decls (Stable p k label tag receive) names = captured_in decls (in_proc decls p) (Stable p k label tag receive) names
captured decls (Frame p k label tag receive) names = captured_in decls (in_proc decls p) (Frame p k label tag receive) names
captured decls _ names = false

-- ---- the obligation of a procedure

abbrev pub sequent_in : Decls → Proc → Duty → List ℕ → Sequent
sequent_in decls proc (Start p) names = start_sequent decls proc
sequent_in decls proc (Guard p k) names = guard_at decls proc (point_at proc k).block
sequent_in decls proc (AfterSend p k) names = sent_at decls proc (point_at proc k).block (next_of (point_at proc k))
sequent_in decls proc (Got p k) names = got_at decls proc (point_at proc k).block (name_at names 0) (next_of (point_at proc k))
sequent_in decls proc (Miss p k) names = missed_at decls proc (point_at proc k).block (next_of (point_at proc k))
sequent_in decls proc (AfterRead p k) names = read_at decls proc (point_at proc k).block (next_of (point_at proc k))
sequent_in decls proc (Body p k) names = body_at decls proc (point_at proc k).block
sequent_in decls proc (Exit p k) names = exit_at decls proc (point_at proc k).block (next_of (point_at proc k))
sequent_in decls proc (Enter p k) names = enter_at decls proc (point_at proc k).block
sequent_in decls proc (Leave p k) names = leave_at decls proc (point_at proc k).block (name_at names 0) (next_of (point_at proc k))
sequent_in decls proc (Stable p k label tag receive) names = kept_sequent decls proc (vars_at decls proc k) (stays_at proc k) label tag receive names
sequent_in decls proc (Frame p k label tag receive) names = kept_sequent decls proc (vars_of decls proc) (frame_of (point_at proc k).block) label tag receive names
sequent_in decls proc _ names = no_sequent

-- ---- which of them is of a procedure

abbrev pub proc_number : Duty → Option ℕ
proc_number (Start p) = Some p
proc_number (Guard p k) = Some p
proc_number (AfterSend p k) = Some p
proc_number (Got p k) = Some p
proc_number (Miss p k) = Some p
proc_number (AfterRead p k) = Some p
proc_number (Body p k) = Some p
proc_number (Exit p k) = Some p
proc_number (Enter p k) = Some p
proc_number (Leave p k) = Some p
proc_number (Stable p k label tag receive) = Some p
proc_number (Frame p k label tag receive) = Some p
proc_number _ = None

-- an obligation that is of no procedure
abbrev pub other_sequent : Decls → Duty → Sequent
other_sequent decls (Deploy node) = deploy_sequent decls node (program_of decls node)
other_sequent decls _ = no_sequent
