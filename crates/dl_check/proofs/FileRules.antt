-- The rules of worlds and obligations that a file breaks.
use Rattle.std.proofs.Common.{◌≡◌, ℕ, ◌+◌, Bool, true, false, ◌&&◌, if◌then◌else◌, List, [], ◌∷◌, ◌++◌, Option, Some, None, Result, Ok, Err, drop, refl}
use Rattle.std.specs.List.{AllByRecursion as Each, list_any, flat_map, enumerate_from}
use Rattle.dl_term.specs.declared.syntax.Lab.{Lab}
use Rattle.dl_term.specs.declared.syntax.Lab.TheVariants.{Own, At}
use Rattle.dl_term.specs.declared.syntax.Formula.{Formula}
use Rattle.dl_tree.specs.declared.tree.Place.{Place}
use Rattle.dl_tree.specs.declared.tree.Tree.{Tree}
use Rattle.dl_tree.specs.TreePlace.{place_of}
use Rattle.dl_model.specs.declared.program.Proc.{Proc}
use Rattle.dl_model.specs.declared.sequent.Sequent.{Sequent}
use Rattle.dl_model.specs.declared.file.World.{World}
use Rattle.dl_model.specs.declared.file.Invariant.{Invariant}
use Rattle.dl_model.specs.declared.file.Program.{Program}
use Rattle.dl_model.specs.Block.{Block, Done, Sends, Awaits, Polls, Reads, Sets, Ifs, Whiles, Calls, block_of}
use Rattle.dl_model.specs.Sorts.{has}
use Rattle.dl_model.specs.Lookup.{world_at, world_of, hook_at, composed, deploy_of}
use Rattle.dl_model.specs.Spoken.{labels_of}
use Rattle.dl_model.specs.Worlds.{is_label_of}
use Rattle.dl_sequent.specs.declared.duty.Duty.{Duty}
use Rattle.dl_sequent.specs.Plain.{is_plain_sequent}
use Rattle.dl_sequent.specs.Sizes.{is_too_large}
use Rattle.dl_kernel.specs.declared.fault.KernelFault.{KernelFault}
use Rattle.dl_kernel.specs.declared.fault.KernelFault.TheVariants.{RuleFails, Limit, Memory}
use Rattle.dl_kernel.specs.Outcome.{fault}
use Rattle.dl_world.specs.declared.inject.InjectFault.{InjectFault}
use Rattle.dl_world.specs.declared.inject.InjectFault.TheVariants.{NoLabel, NotCovered}
use Rattle.dl_world.specs.Injected.{injection}
use Rattle.dl_inv.proofs.Lists.{each-append}
use Rattle.dl_file.specs.declared.file.Proof.{Proof}
use Rattle.dl_file.specs.declared.file.File.{File}
use Rattle.dl_faults.specs.declared.wrong.Named.TheVariants.{Label, Obligation}
use Rattle.dl_faults.specs.declared.wrong.Wrong.{Wrong}
use Rattle.dl_faults.specs.Wrong.{at, naming, unless, goes_before, earlier, earliest}
use Rattle.dl_faults.specs.Places.{parts_of, hook_place, label_place, invariant_place}
use Rattle.dl_faults.specs.ProgramPlaces.{tree_at, part_at, label_list, label_word, proc_tree, formula_in, behind, body_of, program_place}
use Rattle.dl_faults.specs.Injections.{injection_wrong}
use Rattle.dl_faults.specs.Programs.{named_wrong, spoken_wrong, formula_wrong, touching_wrong, touched_wrong, frame_wrong, said_wrong, call_wrong, block_wrong, proc_wrong_at, proc_wrong, program_wrong}
use Rattle.dl_faults.specs.Worlds.{hook_wrong, world_wrong, label_wrong, invariant_wrong, world_wrongs, world_fault}
use Rattle.dl_faults.specs.Whole.{duties_of, sequent_of}
use Rattle.dl_faults.specs.Obligations.{same_duty, proof_of, spare_names, duty_place, sequent_wrong, script_wrong, proof_wrong, duty_wrong, extra_wrong, obligation_wrongs, obligation_fault}
use Rattle.dl_faults.specs.Verdict.{or_else, first_fault}
use Rattle.dl_check.specs.Rules.{is_tree_rule}

-- the rule of what is wrong is one of the rules
abbrev pub IsRuled : Wrong → Type 0
IsRuled wrong = is_tree_rule wrong.rule ≡ true

-- and so is that of the first thing that is wrong, if any
abbrev pub FirstIsRuled : Option Wrong → Type 0
FirstIsRuled None = Unit {0}
FirstIsRuled (Some wrong) = IsRuled wrong

-- ---- lists of what is wrong

unless-ruled : (b : Bool) (wrong : Wrong) → IsRuled wrong → Each IsRuled (unless b wrong)
unless-ruled true wrong h = tt
unless-ruled false wrong h = (h, tt)

one-ruled : (b : Bool) (xs ys : List Wrong) → Each IsRuled xs → Each IsRuled ys → Each IsRuled (if b then xs else ys)
one-ruled true xs ys h k = h
one-ruled false xs ys h k = k

flat-ruled : {X : Type 0} (f : X → List Wrong) (xs : List X) → ((x : X) → Each IsRuled (f x)) → Each IsRuled (flat_map f xs)
flat-ruled f [] h = tt
flat-ruled f (x ∷ xs) h = each-append IsRuled (f x) (flat_map f xs) (h x) (flat-ruled f xs h)

both-ruled : (xs ys : List Wrong) → Each IsRuled xs → Each IsRuled ys → Each IsRuled (xs ++ ys)
both-ruled xs ys h k = each-append IsRuled xs ys h k

-- ---- the first one

earlier-ruled : (wrong : Wrong) (later : Option Wrong) → IsRuled wrong → FirstIsRuled later → FirstIsRuled (earlier wrong later)
earlier-ruled wrong None h k = h
earlier-ruled wrong (Some later) h k = one (goes_before later wrong)
  where
    one : (b : Bool) → IsRuled (if b then later else wrong)
    one true = k
    one false = h

earliest-ruled : (wrongs : List Wrong) → Each IsRuled wrongs → FirstIsRuled (earliest wrongs)
earliest-ruled [] h = tt
earliest-ruled (wrong ∷ wrongs) h = earlier-ruled wrong (earliest wrongs) h.0 (earliest-ruled wrongs h.1)

or-ruled : (a b : Option Wrong) → FirstIsRuled a → FirstIsRuled b → FirstIsRuled (or_else a b)
or-ruled None b h k = k
or-ruled (Some wrong) b h k = h

-- ---- worlds

injection-ruled : (place : Place) (r : Result (Unit {0}) InjectFault) → Each IsRuled (injection_wrong place r)
injection-ruled place (Ok u) = tt
injection-ruled place (Err (NoLabel label)) = (refl, tt)
injection-ruled place (Err (NotCovered hook)) = (refl, tt)

hook-ruled : (file : File) (w : ℕ) (world : World) (listed : ℕ × ℕ) → Each IsRuled (hook_wrong file w world listed)
hook-ruled file w world listed =
    let hook = hook_at file.decls listed.1 in
    unless-ruled (has world.labels hook.core && has world.labels hook.client) (at 21 (hook_place file.tree w listed.0)) refl

world-ruled : (file : File) (declared : ℕ × World) → Each IsRuled (world_wrong file declared)
world-ruled file declared = flat-ruled (hook_wrong file declared.0 declared.1) (enumerate_from 0 declared.1.hooks) (hook-ruled file declared.0 declared.1)

label-ruled : (file : File) (i : ℕ) (world : World) (named : ℕ × Lab) → Each IsRuled (label_wrong file i world named)
label-ruled file i world named = unless-ruled (is_label_of world named.1) (at 24 (label_place file.tree i named.0)) refl

invariant-ruled : (file : File) (declared : ℕ × Invariant) → Each IsRuled (invariant_wrong file declared)
invariant-ruled file declared =
    let world : World = world_at file.decls declared.1.world in
    let place : Place = invariant_place file.tree declared.0 in
    both-ruled (flat_map (label_wrong file declared.0 world) (enumerate_from 0 (labels_of declared.1.formula))) (injection_wrong place (injection file.decls world (composed file.decls)))
    (flat-ruled (label_wrong file declared.0 world) (enumerate_from 0 (labels_of declared.1.formula)) (label-ruled file declared.0 world))
    (injection-ruled place (injection file.decls world (composed file.decls)))

-- ---- programs

named-ruled : (world : World) (t : Tree) (label : ℕ) → Each IsRuled (named_wrong world t label)
named-ruled world t label = unless-ruled (has world.labels label) (at 20 (place_of t)) refl

spoken-ruled : (world : World) (t : Tree) (named : ℕ × Lab) → Each IsRuled (spoken_wrong world t named)
spoken-ruled world t named = unless-ruled (is_label_of world named.1) (at 20 (place_of (label_word (label_list t named.0)))) refl

formula-ruled : (world : World) (t : Tree) (f : Formula) → Each IsRuled (formula_wrong world t f)
formula-ruled world t f = flat-ruled (spoken_wrong world t) (enumerate_from 0 (labels_of f)) (spoken-ruled world t)

touching-ruled : (callee : World) (place : Place) (label : Lab) → Each IsRuled (touching_wrong callee place label)
touching-ruled callee place Own = tt
touching-ruled callee place (At label) = one-ruled (has callee.labels label) (naming 23 place (Label label) ∷ []) [] (refl, tt) tt

touched-ruled : (callee : World) (t : Tree) (named : ℕ × Lab) → Each IsRuled (touched_wrong callee t named)
touched-ruled callee t named = touching-ruled callee (place_of (label_list t named.0)) named.1

frame-ruled : (callee : World) (t : Tree) (f : Formula) → Each IsRuled (frame_wrong callee t f)
frame-ruled callee t f = flat-ruled (touched_wrong callee t) (enumerate_from 0 (labels_of f)) (touched-ruled callee t)

said-ruled : (world : World) (t : Tree) (note : Formula) (part label : ℕ) → Each IsRuled (said_wrong world t note part label)
said-ruled world t note part label =
    both-ruled (formula_wrong world (part_at t 1) note) (named_wrong world (part_at t part) label) (formula-ruled world (part_at t 1) note) (named-ruled world (part_at t part) label)

call-ruled : (file : File) (world : World) (t : Tree) (note frame : Formula) (callee : World) → Each IsRuled (call_wrong file world t note frame callee)
call-ruled file world t note frame callee =
    let of_note = formula_wrong world (part_at t 1) note in
    let of_frame = formula_wrong world (part_at t 2) frame in
    let touching = frame_wrong callee (part_at t 2) frame in
    let injected = injection_wrong (place_of t) (injection file.decls callee world) in
    both-ruled (of_note ++ of_frame) (touching ++ injected)
    (both-ruled of_note of_frame (formula-ruled world (part_at t 1) note) (formula-ruled world (part_at t 2) frame))
    (both-ruled touching injected (frame-ruled callee (part_at t 2) frame) (injection-ruled (place_of t) (injection file.decls callee world)))

block-ruled : (file : File) (world : World) (whole : Tree) (trees : List Tree) (n : ℕ) (block : Block) → Each IsRuled (block_wrong file world whole trees n block)
block-ruled file world whole trees n Done = tt
block-ruled file world whole trees n (Sends note label tag to args rest) =
    both-ruled (said_wrong world (tree_at whole trees n) note 2 label) (block_wrong file world whole trees (n + 1) rest)
    (said-ruled world (tree_at whole trees n) note 2 label) (block-ruled file world whole trees (n + 1) rest)
block-ruled file world whole trees n (Awaits note label tag sender args rest) =
    both-ruled (said_wrong world (tree_at whole trees n) note 2 label) (block_wrong file world whole trees (n + 1) rest)
    (said-ruled world (tree_at whole trees n) note 2 label) (block-ruled file world whole trees (n + 1) rest)
block-ruled file world whole trees n (Polls note got label tag sender args rest) =
    both-ruled (said_wrong world (tree_at whole trees n) note 3 label) (block_wrong file world whole trees (n + 1) rest)
    (said-ruled world (tree_at whole trees n) note 3 label) (block-ruled file world whole trees (n + 1) rest)
block-ruled file world whole trees n (Reads note into label field index rest) =
    both-ruled (said_wrong world (tree_at whole trees n) note 3 label) (block_wrong file world whole trees (n + 1) rest)
    (said-ruled world (tree_at whole trees n) note 3 label) (block-ruled file world whole trees (n + 1) rest)
block-ruled file world whole trees n (Sets target value rest) = block-ruled file world whole trees (n + 1) rest
block-ruled file world whole trees n (Ifs test left right rest) =
    let on_yes = behind (part_at (tree_at whole trees n) 2) in
    let on_no = behind (part_at (tree_at whole trees n) 3) in
    both-ruled (block_wrong file world whole on_yes 0 left ++ block_wrong file world whole on_no 0 right) (block_wrong file world whole trees (n + 1) rest)
    (both-ruled (block_wrong file world whole on_yes 0 left) (block_wrong file world whole on_no 0 right) (block-ruled file world whole on_yes 0 left) (block-ruled file world whole on_no 0 right))
    (block-ruled file world whole trees (n + 1) rest)
block-ruled file world whole trees n (Whiles test note body rest) =
    let at_note = part_at (tree_at whole trees n) 2 in
    let inner = drop 3 (parts_of (tree_at whole trees n)) in
    both-ruled (formula_wrong world at_note note ++ block_wrong file world whole inner 0 body) (block_wrong file world whole trees (n + 1) rest)
    (both-ruled (formula_wrong world at_note note) (block_wrong file world whole inner 0 body) (formula-ruled world at_note note) (block-ruled file world whole inner 0 body))
    (block-ruled file world whole trees (n + 1) rest)
block-ruled file world whole trees n (Calls note frame into callee args rest) =
    both-ruled (call_wrong file world (tree_at whole trees n) note frame (world_of file.decls callee)) (block_wrong file world whole trees (n + 1) rest)
    (call-ruled file world (tree_at whole trees n) note frame (world_of file.decls callee)) (block-ruled file world whole trees (n + 1) rest)

proc-ruled : (file : File) (world : World) (t : Tree) (proc : Proc) → Each IsRuled (proc_wrong_at file world t proc)
proc-ruled file world t proc =
    let of_pre = formula_wrong world (formula_in t 5) proc.pre in
    let of_post = formula_wrong world (formula_in t 6) proc.post in
    both-ruled (of_pre ++ of_post) (block_wrong file world t (body_of t) 0 (block_of proc.body))
    (both-ruled of_pre of_post (formula-ruled world (formula_in t 5) proc.pre) (formula-ruled world (formula_in t 6) proc.post))
    (block-ruled file world t (body_of t) 0 (block_of proc.body))

numbered-ruled : (file : File) (declared : ℕ × Proc) → Each IsRuled (proc_wrong file declared)
numbered-ruled file declared = proc-ruled file (world_at file.decls declared.1.world) (proc_tree file.tree declared.0) declared.1

program-ruled : (file : File) (deployed : ℕ × Program) → Each IsRuled (program_wrong file deployed)
program-ruled file deployed = injection-ruled (program_place file.tree deployed.0) (injection file.decls (world_of file.decls deployed.1.proc) (composed file.decls))

worlds-ruled : (file : File) → FirstIsRuled (world_fault file)
worlds-ruled file =
    let of_worlds = flat_map (world_wrong file) (enumerate_from 0 file.decls.worlds) in
    let of_invariants = flat_map (invariant_wrong file) (enumerate_from 0 file.decls.invariants) in
    let of_procs = flat_map (proc_wrong file) (enumerate_from 0 file.decls.procs) in
    let of_programs = flat_map (program_wrong file) (enumerate_from 0 (deploy_of file.decls).programs) in
    earliest-ruled (world_wrongs file) (both-ruled (of_worlds ++ of_invariants) (of_procs ++ of_programs)
    (both-ruled of_worlds of_invariants (flat-ruled (world_wrong file) (enumerate_from 0 file.decls.worlds) (world-ruled file)) (flat-ruled (invariant_wrong file) (enumerate_from 0 file.decls.invariants) (invariant-ruled file)))
    (both-ruled of_procs of_programs (flat-ruled (proc_wrong file) (enumerate_from 0 file.decls.procs) (numbered-ruled file)) (flat-ruled (program_wrong file) (enumerate_from 0 (deploy_of file.decls).programs) (program-ruled file))))

-- ---- obligations

sequent-ruled : (file : File) (duty : Duty) (s : Sequent) (wrongs : List Wrong) → Each IsRuled wrongs → Each IsRuled (sequent_wrong file duty s wrongs)
sequent-ruled file duty s wrongs h = one-ruled (is_too_large s) (naming 33 (duty_place file duty) (Obligation duty) ∷ []) wrongs (refl, tt) h

script-ruled : (o : Option KernelFault) → Each IsRuled (script_wrong o)
script-ruled None = tt
script-ruled (Some (RuleFails rule)) = (refl, tt)
script-ruled (Some (Limit rule)) = (refl, tt)
script-ruled (Some Memory) = tt

proof-ruled : (file : File) (duty : Duty) (proof : Option Proof) → Each IsRuled (proof_wrong file duty proof)
proof-ruled file duty None =
    let s : Sequent = sequent_of file.decls duty (spare_names file duty) in
    let wrong : Wrong = naming 30 (duty_place file duty) (Obligation duty) in
    sequent-ruled file duty s (unless (is_plain_sequent s) wrong) (unless-ruled (is_plain_sequent s) wrong refl)
proof-ruled file duty (Some proof) =
    let s : Sequent = sequent_of file.decls duty proof.names in
    let refused : Option KernelFault = fault file.decls.inst proof.script.rule proof.script.place s in
    sequent-ruled file duty s (script_wrong refused) (script-ruled refused)

extra-ruled : (file : File) (proof : Proof) → Each IsRuled (extra_wrong file proof)
extra-ruled file proof = unless-ruled (list_any (same_duty proof.duty) (duties_of file.decls)) (at 31 proof.place) refl

obligations-ruled : (file : File) → FirstIsRuled (obligation_fault file)
obligations-ruled file =
    let of_duties = flat_map (duty_wrong file) (duties_of file.decls) in
    let of_extras = flat_map (extra_wrong file) file.proofs in
    earliest-ruled (obligation_wrongs file)
    (both-ruled of_duties of_extras (flat-ruled (duty_wrong file) (duties_of file.decls) (λ duty. proof-ruled file duty (proof_of file duty))) (flat-ruled (extra_wrong file) file.proofs (extra-ruled file)))

-- The first fault of a file is by a rule.
pub file-ruled : (file : File) → FirstIsRuled (first_fault file)
file-ruled file = or-ruled (world_fault file) (obligation_fault file) (worlds-ruled file) (obligations-ruled file)
