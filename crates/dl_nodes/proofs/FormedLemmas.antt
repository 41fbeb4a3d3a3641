-- What a formed file gives: procedures whose sends are given, and programs that can begin.
use Rattle.std.proofs.Common.{◌≡◌, ◌<◌, ◌==◌, ℕ, ℤ, suc, Bool, true, false, cond, Option, Some, None, List, [], ◌∷◌, length, refl, ap, sym, ◌∙◌, subst}
use Rattle.std.specs.Prelude.{slice_get, unwrap_or}
use Rattle.std.specs.List.{AllByRecursion as Each}
use Rattle.std.proofs.lemmas.Bool.{eqb-true}
use Rattle.std.proofs.lemmas.Bool.Decides.{Decides-ltb}
use Rattle.std.proofs.lemmas.List.{length-map}
use Rattle.std.proofs.lemmas.Option.{slice_get_within}
use Rattle.dl_term.specs.declared.syntax.Sort.{Sort}
use Rattle.dl_term.specs.declared.syntax.Lab.TheVariants.{At}
use Rattle.dl_model.specs.declared.protocol.Protocol.{Protocol}
use Rattle.dl_model.specs.declared.protocol.Instances.{Instances}
use Rattle.dl_model.specs.declared.program.Proc.{Proc}
use Rattle.dl_model.specs.declared.file.Program.{Program}
use Rattle.dl_model.specs.declared.file.Deploy.{Deploy}
use Rattle.dl_model.specs.declared.file.Decls.{Decls}
use Rattle.dl_model.specs.Sorts.{in_sort, all_in_sorts}
use Rattle.dl_model.specs.Block.{Block, Done, Sends, Awaits, Polls, Reads, Sets, Ifs, Whiles, Calls, block_of}
use Rattle.dl_model.specs.Lookup.{Parameter, arg_sorts, proc_at, no_proc, protocol_in, no_protocol, tag_at, program_in, program_of, deploy_of}
use Rattle.dl_model.specs.Scopes.{protocol_found, file_label, is_tag}
use Rattle.dl_model.specs.Formed.{IsFormed, BlockIsFormed, ProgramIsFormed, DeployIsFormed}
use Rattle.dl_model.proofs.Small.{and-right}
use Rattle.dl_nodes.specs.Given.{TagIsGiven, BlockIsGiven, ProcsAreGiven}

-- ---- procedures

tag-within : (p : Option Protocol) (tag : ℕ) → is_tag p tag ≡ true → tag < length (unwrap_or p no_protocol).tags
tag-within (Some protocol) tag h = (Decides-ltb tag (length protocol.tags)).0 h
tag-within None tag h = cc

label-within : (inst : Instances) (label tag : ℕ) (o : Option ℕ) → slice_get inst.of label ≡ o → is_tag (protocol_found inst o) tag ≡ true → (label < length inst.of) × (tag < length (protocol_in inst o).tags)
label-within inst label tag (Some number) e h = (slice_get_within inst.of label number e, tag-within (slice_get inst.protocols number) tag h)
label-within inst label tag None e h = cc

tag-given : (inst : Instances) (label tag count : ℕ) → is_tag (file_label inst (At label)) tag ≡ true → count ≡ length (tag_at inst label tag).args → TagIsGiven inst label tag count
tag-given inst label tag count h e =
    let both = label-within inst label tag (slice_get inst.of label) refl h in
    record { label = both.0; tag = both.1; args = e }

block-given : (decls : Decls) (number : ℕ) (proc : Proc) (block : Block) → BlockIsFormed decls number proc block → BlockIsGiven decls.inst block
block-given decls number proc Done h = tt
block-given decls number proc (Sends note label tag to args rest) h = (tag-given decls.inst label tag (length args) h.1 h.2, block-given decls number proc rest h.5)
block-given decls number proc (Awaits note label tag sender args rest) h = block-given decls number proc rest h.4
block-given decls number proc (Polls note got label tag sender args rest) h = block-given decls number proc rest h.4
block-given decls number proc (Reads note into label field index rest) h = block-given decls number proc rest h.4
block-given decls number proc (Sets target value rest) h = block-given decls number proc rest h.2
block-given decls number proc (Ifs test left right rest) h = ((block-given decls number proc left h.1, block-given decls number proc right h.2), block-given decls number proc rest h.3)
block-given decls number proc (Whiles test note body rest) h = (block-given decls number proc body h.2, block-given decls number proc rest h.3)
block-given decls number proc (Calls note frame into callee args rest) h = block-given decls number proc rest h.6

proc-given : (decls : Decls) (number : ℕ) (found : Option Proc) → slice_get decls.procs number ≡ found → IsFormed decls → BlockIsGiven decls.inst (block_of (unwrap_or found no_proc).body)
proc-given decls number (Some proc) e h = block-given decls number proc (block_of proc.body) (h.procs number proc e).body
proc-given decls number None e h = tt

pub procs-given : (decls : Decls) → IsFormed decls → ProcsAreGiven decls.inst decls.procs
procs-given decls h = record { each = λ number. proc-given decls number (slice_get decls.procs number) refl h }

-- ---- programs

each-program : (decls : Decls) (node : ℕ) (programs : List Program) (program : Program) → Each (ProgramIsFormed decls) programs → program_in programs node ≡ Some program
    → ProgramIsFormed decls program × (program.node ≡ node)
each-program decls node [] program h e = cc
each-program decls node (first ∷ programs) program h e = go (node == first.node) refl e (each-program decls node programs program h.1)
  where
    go : (b : Bool) → (node == first.node) ≡ b → cond b (Some first) (program_in programs node) ≡ Some program
        → (program_in programs node ≡ Some program → ProgramIsFormed decls program × (program.node ≡ node)) → ProgramIsFormed decls program × (program.node ≡ node)
    go true q f rest =
        let same : first ≡ program = cc in
        (subst (ProgramIsFormed decls) same h.0, sym (eqb-true node first.node q ∙ ap (λ (p : Program). p.node) same))
    go false q f rest = rest f

deployed : (decls : Decls) (deploy : Option Deploy) → DeployIsFormed decls deploy → Each (ProgramIsFormed decls) (unwrap_or deploy (record { world = 0; programs = [] })).programs
deployed decls (Some deploy) h = h.1
deployed decls None h = tt

pub program-formed : (decls : Decls) (node : ℕ) (program : Program) → IsFormed decls → program_of decls node ≡ Some program → ProgramIsFormed decls program
program-formed decls node program h e = (each-program decls node (deploy_of decls).programs program (deployed decls decls.deploy h.deploy) e).0

pub node-known : (decls : Decls) (node : ℕ) (program : Program) → IsFormed decls → program_of decls node ≡ Some program → node < decls.inst.nodes
node-known decls node program formed e =
    let one = each-program decls node (deploy_of decls).programs program (deployed decls decls.deploy formed.deploy) e in
    subst (λ (n : ℕ). n < decls.inst.nodes) one.1 one.0.node

counts : (sorts : List Sort) (values : List ℤ) → all_in_sorts sorts values ≡ true → length values ≡ length sorts
counts [] [] h = refl
counts [] (v ∷ vs) h = cc
counts (sort ∷ sorts) [] h = cc
counts (sort ∷ sorts) (v ∷ vs) h = ap suc (counts sorts vs (and-right (in_sort sort v) (all_in_sorts sorts vs) h))

pub constants-count : (decls : Decls) (program : Program) → ProgramIsFormed decls program → length program.constants ≡ length (proc_at decls.procs program.proc).params
constants-count decls program h =
    counts (arg_sorts (proc_at decls.procs program.proc).params) program.constants h.constants
    ∙ length-map (proc_at decls.procs program.proc).params (λ (arg : Parameter). arg.1)
