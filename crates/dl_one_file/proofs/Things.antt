-- Two formed files that are written alike hold the same things.
use Rattle.std.proofs.Common.{◌≡◌, ℕ, ℤ, ◌<◌, true, List, [], ◌∷◌, length, map, Option, Some, None, refl, ap, sym, subst, ◌∙◌, arith}
use Rattle.std.specs.Prelude.{◌+◌, ◌++◌, slice_get, unwrap_or, is_some, codes}
use Rattle.std.specs.List.{AllByRecursion as Each}
use Rattle.dl_tree.specs.declared.tree.Tree.{Tree}
use Rattle.dl_tree.specs.TreePlace.{place_of}
use Rattle.dl_model.specs.declared.protocol.Protocol.{Protocol}
use Rattle.dl_model.specs.declared.protocol.Hook.{Hook}
use Rattle.dl_model.specs.declared.program.Proc.{Proc}
use Rattle.dl_model.specs.declared.file.World.{World}
use Rattle.dl_model.specs.declared.file.Invariant.{Invariant}
use Rattle.dl_model.specs.declared.file.Program.{Program}
use Rattle.dl_model.specs.declared.file.Deploy.{Deploy}
use Rattle.dl_model.specs.declared.file.Decls.{Decls}
use Rattle.dl_model.specs.Lookup.{arg_names, proc_at}
use Rattle.dl_model.specs.Words.{first_name}
use Rattle.dl_model.specs.Formed.{WorldIsFormed, IsFormed}
use Rattle.dl_file.specs.declared.file.ItemKind.TheVariants as kind
use Rattle.dl_file.specs.declared.file.Proof.{Proof}
use Rattle.dl_file.specs.declared.file.File.{File}
use Rattle.dl_forms.specs.Context.{Text}
use Rattle.dl_forms.specs.Table.{NameTable}
use Rattle.dl_forms.specs.Show.{number, form}
use Rattle.dl_notation.specs.Environment.{Environment}
use Rattle.dl_notation.specs.Rules.{other_words}
use Rattle.dl_shown.specs.Shown.{shown_if, listed, name_of, named, label_of, tag_name, tag_in, protocol_of_label, formula_of, hook_of, hook_name, world_name, world_of, invariant_of, node_name, proc_name, program_of, deploy_of}
use Rattle.dl_shown.specs.Programs.{proc_of}
use Rattle.dl_shown.specs.Scripts.{own_of, duty_of, rule_of, proof_of}
use Rattle.dl_means.specs.Points.{fits_point}
use Rattle.dl_means.specs.Says.{says, says_protocol, says_proc, says_rule, says_proof, proc_in, variables_in}
use Rattle.dl_means.specs.Stands.{same_place, part_at, proof_stands}
use Rattle.dl_one_file.proofs.Trees.{apart, first, second, IsPlain, list-plain, parts-plain, same-list, same-parts, same-number, same-head, same-tail}
use Rattle.dl_one_file.proofs.Alike.{same-name}
use Rattle.dl_one_file.proofs.Scripts.{same-place as one-place-of, same-rule}
use Rattle.dl_one_file.proofs.Lists.{same-lists, same-names, same-numbers, each-at, there, within}
use Rattle.dl_one_file.proofs.Skeleton.{same-place, SameSkeleton, alike}
use Rattle.dl_one_file.proofs.Declarations.{formulas-same, same-protocol}
use Rattle.dl_one_file.proofs.Pairs.{AreWritten, Twice, same-nodes, same-count, twice}
use Rattle.dl_one_file.proofs.Order.{found-shown, found-plain, found-says, hooks-once, worlds-once, procs-once, proc_syms, same-protocol-syms, label-plain, shown-at}
use Rattle.dl_one_file.proofs.Duties.{same-label, same-tag-of, same-duty}
use Rattle.dl_one_file.proofs.Commands.{same-proc, same-proc-name}

each-written : (P : ℕ → Type 0) (f : ℕ → Tree) → ((n : ℕ) → P n → IsPlain (f n)) → (ns : List ℕ) → Each P ns → Each IsPlain (map f ns)
each-written P f plain [] h = tt
each-written P f plain (n ∷ ns) h = (plain n h.0, each-written P f plain ns h.1)

-- what two files share besides their writing
pub record AreFormed (na nb : NameTable) (a b : File) : Type 0 where
  pub formed_a : IsFormed a.decls
  pub formed_b : IsFormed b.decls
  pub deployed_a : is_some a.decls.deploy ≡ true
  pub deployed_b : is_some b.decls.deploy ≡ true
  pub same : SameSkeleton na nb a.decls b.decls

module _ (na nb : NameTable) (a b : File) (written : AreWritten na nb a b) (formed : AreFormed na nb a b) where
  abbrev da : Decls
  da = a.decls

  abbrev db : Decls
  db = b.decls

  -- ---- protocols

  protocol-at : (n : ℕ) (p q : Protocol) → slice_get da.inst.protocols n ≡ Some p → slice_get db.inst.protocols n ≡ Some q → p ≡ q
  protocol-at n p q hp hq =
      let t : Twice na nb a b kind.Protocol n = twice na nb a b written kind.Protocol n (within da.inst.protocols n p hp) in
      same-protocol na nb da db formed.same t.env.words n p q (formed.same.parts n p q hp hq) (shown-at na nb a b written formed.same.names formed.formed_a formed.formed_b n p q hp hq)
      (found-says (says_protocol na t.env.words) (slice_get da.inst.protocols n) p hp t.says_a) (found-says (says_protocol nb t.env.words) (slice_get db.inst.protocols n) q hq t.says_b)

  same-protocols : da.inst.protocols ≡ db.inst.protocols
  same-protocols = same-lists da.inst.protocols db.inst.protocols (same-count na nb a b written kind.Protocol) protocol-at

  -- ---- hooks

  names-plain : (syms : List ℕ) → IsPlain (listed (map (name_of na) syms)) → Each IsPlain (map (name_of na) syms)
  names-plain [] plain = tt
  names-plain (s ∷ syms) plain = list-plain (name_of na s) (map (name_of na) syms) refl plain.0

  same-hook : (words : List (Text × ℤ)) (x y : Hook) → hook_of na da x ≡ hook_of nb db y → says na words x.formula ≡ true → says nb words y.formula ≡ true → IsPlain (hook_of na da x) → x ≡ y
  same-hook words x y e sx sy plain =
      let h : name_of na x.sym ∷ label_of na da x.core ∷ label_of na da x.client ∷ tag_name na da (tag_in (protocol_of_label da.inst x.client) x.tag) ∷ listed (map (name_of na) x.args) ∷ formula_of na da None x.formula ∷ []
      ≡ name_of nb y.sym ∷ label_of nb db y.core ∷ label_of nb db y.client ∷ tag_name nb db (tag_in (protocol_of_label db.inst y.client) y.tag) ∷ listed (map (name_of nb) y.args) ∷ formula_of nb db None y.formula ∷ [] = same-parts _ _ _ _ e in
      let ps : Each IsPlain (name_of na x.sym ∷ label_of na da x.core ∷ label_of na da x.client ∷ tag_name na da (tag_in (protocol_of_label da.inst x.client) x.tag) ∷ listed (map (name_of na) x.args) ∷ formula_of na da None x.formula ∷ []) = parts-plain _ _ plain in
      let syms : x.sym ≡ y.sym = same-name na nb formed.same.names x.sym y.sym (same-head _ _ _ _ h) ps.0 in
      let h1 = same-tail _ _ _ _ h in
      let cores : x.core ≡ y.core = same-label na nb da db formed.same x.core y.core (same-head _ _ _ _ h1) ps.1.0 in
      let h2 = same-tail _ _ _ _ h1 in
      let clients : x.client ≡ y.client = same-label na nb da db formed.same x.client y.client (same-head _ _ _ _ h2) ps.1.1.0 in
      let h3 = same-tail _ _ _ _ h2 in
      let tags : x.tag ≡ y.tag = same-tag-of na nb da db formed.same x.client y.client x.tag y.tag clients (same-head _ _ _ _ h3) ps.1.1.1.0 in
      let h4 = same-tail _ _ _ _ h3 in
      let args : x.args ≡ y.args = same-names (name_of na) (name_of nb) (same-name na nb formed.same.names) x.args y.args (same-list _ _ (same-head _ _ _ _ h4)) (names-plain x.args ps.1.1.1.1.0) in
      let formulas : x.formula ≡ y.formula = formulas-same na nb da db formed.same words None x.formula y.formula (same-head _ _ _ _ (same-tail _ _ _ _ h4)) sx sy ps.1.1.1.1.1.0 in
      λ i. record { sym = syms i; core = cores i; client = clients i; tag = tags i; args = args i; formula = formulas i }

  hook-at : (n : ℕ) (x y : Hook) → slice_get da.hooks n ≡ Some x → slice_get db.hooks n ≡ Some y → x ≡ y
  hook-at n x y hx hy =
      let t : Twice na nb a b kind.Hook n = twice na nb a b written kind.Hook n (within da.hooks n x hx) in
      same-hook t.env.words x y (found-shown (hook_of na da) (hook_of nb db) (slice_get da.hooks n) (slice_get db.hooks n) x y hx hy t.shown)
      (found-says (λ (hook : Hook). says na t.env.words hook.formula) (slice_get da.hooks n) x hx t.says_a)
      (found-says (λ (hook : Hook). says nb t.env.words hook.formula) (slice_get db.hooks n) y hy t.says_b) (found-plain (hook_of na da) (slice_get da.hooks n) x hx (t.plain refl))

  same-hooks : da.hooks ≡ db.hooks
  same-hooks = same-lists da.hooks db.hooks (same-count na nb a b written kind.Hook) hook-at

  -- ---- worlds

  same-hook-name : (i j : ℕ) → hook_name na da i ≡ hook_name nb db j → IsPlain (hook_name na da i) → i ≡ j
  same-hook-name i j e plain =
      same-place na nb formed.same.names (λ (h : Hook). h.sym) da.hooks db.hooks (ap (map (λ (h : Hook). h.sym)) same-hooks) (hooks-once da formed.formed_a) i j e plain

  same-world : (x y : World) → world_of na da x ≡ world_of nb db y → IsPlain (name_of na x.sym) → Each IsPlain (map (label_of na da) x.labels) → Each IsPlain (map (hook_name na da) x.hooks) → x ≡ y
  same-world x y e name_plain labels_plain hooks_plain =
      let h : name_of na x.sym ∷ form (codes "labels") (map (label_of na da) x.labels) ∷ form (codes "hooks") (map (hook_name na da) x.hooks) ∷ []
      ≡ name_of nb y.sym ∷ form (codes "labels") (map (label_of nb db) y.labels) ∷ form (codes "hooks") (map (hook_name nb db) y.hooks) ∷ [] = same-parts _ _ _ _ e in
      let syms : x.sym ≡ y.sym = same-name na nb formed.same.names x.sym y.sym (same-head _ _ _ _ h) name_plain in
      let labels : x.labels ≡ y.labels = same-names (label_of na da) (label_of nb db) (same-label na nb da db formed.same) x.labels y.labels
      (same-parts _ _ _ _ (same-head _ _ _ _ (same-tail _ _ _ _ h))) labels_plain in
      let hooks : x.hooks ≡ y.hooks = same-names (hook_name na da) (hook_name nb db) same-hook-name x.hooks y.hooks
      (same-parts _ _ _ _ (same-head _ _ _ _ (same-tail _ _ _ _ (same-tail _ _ _ _ h)))) hooks_plain in
      λ i. record { sym = syms i; labels = labels i; hooks = hooks i }

  -- the labels and hooks of a formed world are those of the file, which are written
  label-known : (l : ℕ) → l < length da.inst.of → IsPlain (label_of na da l)
  label-known l few =
      let counts : length da.labels ≡ length da.inst.of = formed.formed_a.label_names in
      label-plain na nb a b written formed.same.names formed.formed_a formed.formed_b l (omega (arith, few, counts))

  hook-known : (h : ℕ) → h < length da.hooks → IsPlain (hook_name na da h)
  hook-known h few =
      let (x, hx) = there da.hooks h few in
      let t : Twice na nb a b kind.Hook h = twice na nb a b written kind.Hook h few in
      let plain : IsPlain (name_of na x.sym) = (parts-plain _ _ (found-plain (hook_of na da) (slice_get da.hooks h) x hx (t.plain refl))).0 in
      subst IsPlain (sym (ap (named na (λ (h : Hook). h.sym)) hx)) plain

  world-at : (n : ℕ) (x y : World) → slice_get da.worlds n ≡ Some x → slice_get db.worlds n ≡ Some y → x ≡ y
  world-at n x y hx hy =
      let t : Twice na nb a b kind.World n = twice na nb a b written kind.World n (within da.worlds n x hx) in
      let f : WorldIsFormed da x = each-at (WorldIsFormed da) da.worlds n x formed.formed_a.worlds hx in
      same-world x y (found-shown (world_of na da) (world_of nb db) (slice_get da.worlds n) (slice_get db.worlds n) x y hx hy t.shown)
      (t.first_plain _ _ _ (ap (shown_if (world_of na da)) hx)) (each-written (λ l. l < length da.inst.of) (label_of na da) label-known x.labels f.labels) (each-written (λ h. h < length da.hooks) (hook_name na da) hook-known x.hooks f.hooks)

  same-worlds : da.worlds ≡ db.worlds
  same-worlds = same-lists da.worlds db.worlds (same-count na nb a b written kind.World) world-at

  same-world-name : (i j : ℕ) → world_name na da i ≡ world_name nb db j → IsPlain (world_name na da i) → i ≡ j
  same-world-name i j e plain =
      same-place na nb formed.same.names (λ (w : World). w.sym) da.worlds db.worlds (ap (map (λ (w : World). w.sym)) same-worlds) (worlds-once da formed.formed_a) i j e plain

  -- ---- invariants

  same-invariant : (words : List (Text × ℤ)) (x y : Invariant) → invariant_of na da x ≡ invariant_of nb db y → says na words x.formula ≡ true → says nb words y.formula ≡ true → IsPlain (invariant_of na da x) → x ≡ y
  same-invariant words x y e sx sy plain =
      let h : name_of na x.sym ∷ world_name na da x.world ∷ formula_of na da None x.formula ∷ [] ≡ name_of nb y.sym ∷ world_name nb db y.world ∷ formula_of nb db None y.formula ∷ [] = same-parts _ _ _ _ e in
      let ps : Each IsPlain (name_of na x.sym ∷ world_name na da x.world ∷ formula_of na da None x.formula ∷ []) = parts-plain _ _ plain in
      let syms : x.sym ≡ y.sym = same-name na nb formed.same.names x.sym y.sym (same-head _ _ _ _ h) ps.0 in
      let worlds : x.world ≡ y.world = same-world-name x.world y.world (same-head _ _ _ _ (same-tail _ _ _ _ h)) ps.1.0 in
      let formulas : x.formula ≡ y.formula = formulas-same na nb da db formed.same words None x.formula y.formula (same-head _ _ _ _ (same-tail _ _ _ _ (same-tail _ _ _ _ h))) sx sy ps.1.1.0 in
      λ i. record { sym = syms i; world = worlds i; formula = formulas i }

  invariant-at : (n : ℕ) (x y : Invariant) → slice_get da.invariants n ≡ Some x → slice_get db.invariants n ≡ Some y → x ≡ y
  invariant-at n x y hx hy =
      let t : Twice na nb a b kind.Invariant n = twice na nb a b written kind.Invariant n (within da.invariants n x hx) in
      same-invariant t.env.words x y (found-shown (invariant_of na da) (invariant_of nb db) (slice_get da.invariants n) (slice_get db.invariants n) x y hx hy t.shown)
      (found-says (λ (invariant : Invariant). says na t.env.words invariant.formula) (slice_get da.invariants n) x hx t.says_a)
      (found-says (λ (invariant : Invariant). says nb t.env.words invariant.formula) (slice_get db.invariants n) y hy t.says_b) (found-plain (invariant_of na da) (slice_get da.invariants n) x hx (t.plain refl))

  same-invariants : da.invariants ≡ db.invariants
  same-invariants = same-lists da.invariants db.invariants (same-count na nb a b written kind.Invariant) invariant-at

  -- ---- procedures

  -- the item of a procedure
  record ProcShown (n : ℕ) (x y : Proc) : Type 0 where
    words : List (Text × ℤ)
    shown : proc_of na da x ≡ proc_of nb db y
    plain : IsPlain (proc_of na da x)
    says_a : says_proc na words x ≡ true
    says_b : says_proc nb words y ≡ true

  proc-shown : (n : ℕ) (x y : Proc) → slice_get da.procs n ≡ Some x → slice_get db.procs n ≡ Some y → ProcShown n x y
  proc-shown n x y hx hy =
      let t : Twice na nb a b kind.Procedure n = twice na nb a b written kind.Procedure n (within da.procs n x hx) in
      record {
        words = t.env.words;
        shown = found-shown (proc_of na da) (proc_of nb db) (slice_get da.procs n) (slice_get db.procs n) x y hx hy t.shown;
        plain = found-plain (proc_of na da) (slice_get da.procs n) x hx (t.plain refl);
        says_a = found-says (says_proc na t.env.words) (slice_get da.procs n) x hx t.says_a;
        says_b = found-says (says_proc nb t.env.words) (slice_get db.procs n) y hy t.says_b;
      }

  proc-sym : (n : ℕ) (x y : Proc) → slice_get da.procs n ≡ Some x → slice_get db.procs n ≡ Some y → x.sym ≡ y.sym
  proc-sym n x y hx hy =
      let s : ProcShown n x y = proc-shown n x y hx hy in
      same-name na nb formed.same.names x.sym y.sym (same-head _ _ _ _ (same-parts _ _ _ _ s.shown)) (parts-plain _ _ s.plain).0

  same-proc-syms : proc_syms da ≡ proc_syms db
  same-proc-syms = same-numbers (λ (p : Proc). p.sym) da.procs db.procs (same-count na nb a b written kind.Procedure) proc-sym

  proc-at : (n : ℕ) (x y : Proc) → slice_get da.procs n ≡ Some x → slice_get db.procs n ≡ Some y → x ≡ y
  proc-at n x y hx hy =
      let s : ProcShown n x y = proc-shown n x y hx hy in
      same-proc na nb da db formed.same same-proc-syms (procs-once da formed.formed_a) s.words same-world-name x y s.shown s.says_a s.says_b s.plain

  same-procs : da.procs ≡ db.procs
  same-procs = same-lists da.procs db.procs (same-count na nb a b written kind.Procedure) proc-at

  -- ---- the deployment

  same-program : (x y : Program) → program_of na da x ≡ program_of nb db y → IsPlain (program_of na da x) → x ≡ y
  same-program x y e plain =
      let h : node_name na da x.node ∷ proc_name na da x.proc ∷ map number x.constants ≡ node_name nb db y.node ∷ proc_name nb db y.proc ∷ map number y.constants = same-list _ _ e in
      let ps : Each IsPlain (node_name na da x.node ∷ proc_name na da x.proc ∷ map number x.constants) = list-plain (node_name na da x.node) (proc_name na da x.proc ∷ map number x.constants) refl plain.0 in
      let h1 = same-tail _ _ _ _ h in
      let syms : first_name + x.node ≡ first_name + y.node = same-name na nb formed.same.names (first_name + x.node) (first_name + y.node) (same-head _ _ _ _ h) ps.0 in
      let nodes : x.node ≡ y.node = omega (arith, syms) in
      let procs : x.proc ≡ y.proc = same-proc-name na nb da db formed.same same-proc-syms (procs-once da formed.formed_a) x.proc y.proc (same-head _ _ _ _ h1) ps.1.0 in
      let constants : x.constants ≡ y.constants = same-names number number (λ v w f p. same-number v w f) x.constants y.constants (same-tail _ _ _ _ h1) ps.1.1 in
      λ i. record { node = nodes i; proc = procs i; constants = constants i }

  deploy-of : (x y : Deploy) → deploy_of na da x ≡ deploy_of nb db y → IsPlain (deploy_of na da x) → x ≡ y
  deploy-of x y e plain =
      let h : world_name na da x.world ∷ map (program_of na da) x.programs ≡ world_name nb db y.world ∷ map (program_of nb db) y.programs = same-parts _ _ _ _ e in
      let ps : Each IsPlain (world_name na da x.world ∷ map (program_of na da) x.programs) = parts-plain _ _ plain in
      let worlds : x.world ≡ y.world = same-world-name x.world y.world (same-head _ _ _ _ h) ps.0 in
      let programs : x.programs ≡ y.programs = same-names (program_of na da) (program_of nb db) same-program x.programs y.programs (same-tail _ _ _ _ h) ps.1 in
      λ i. record { world = worlds i; programs = programs i }

  deploy-by : (x y : Option Deploy) → da.deploy ≡ x → db.deploy ≡ y → is_some x ≡ true → is_some y ≡ true → x ≡ y
  deploy-by None y hx hy sx sy = absurd (apart sx)
  deploy-by (Some x) None hx hy sx sy = absurd (apart sy)
  deploy-by (Some x) (Some y) hx hy sx sy =
      let t : Twice na nb a b kind.Deploy 0 = twice na nb a b written kind.Deploy 0 (rw hx (omega arith)) in
      ap Some (deploy-of x y (found-shown (deploy_of na da) (deploy_of nb db) da.deploy db.deploy x y hx hy t.shown) (found-plain (deploy_of na da) da.deploy x hx (t.plain refl)))

  same-deploy : da.deploy ≡ db.deploy
  same-deploy = deploy-by da.deploy db.deploy refl refl formed.deployed_a formed.deployed_b

  -- ---- proofs

  same-variables : (o : Option ℕ) → variables_in na da o ≡ variables_in nb db o
  same-variables None = refl
  same-variables (Some p) =
      (λ i. map (λ s. unwrap_or (slice_get (formed.same.names.texts i) s) []) (arg_names (proc_at (same-procs i) p).params ++ (proc_at (same-procs i) p).locals))

  same-proof : (env : Environment) (tree : Tree) (x y : Proof) → proof_of na da x ≡ proof_of nb db y → says_proof na env da x ≡ true → says_proof nb env db y ≡ true → IsPlain (proof_of na da x) →
      proof_stands tree x ≡ true → proof_stands tree y ≡ true → x ≡ y
  same-proof env tree x y e sx sy plain tx ty =
      let h : duty_of na da x.duty ∷ form (codes "names") (map (name_of na) x.names) ∷ rule_of na da (own_of x.duty) x.script.rule ∷ []
      ≡ duty_of nb db y.duty ∷ form (codes "names") (map (name_of nb) y.names) ∷ rule_of nb db (own_of y.duty) y.script.rule ∷ [] = same-parts _ _ _ _ e in
      let ps : Each IsPlain (duty_of na da x.duty ∷ form (codes "names") (map (name_of na) x.names) ∷ rule_of na da (own_of x.duty) x.script.rule ∷ []) = parts-plain _ _ plain in
      let h1 = same-tail _ _ _ _ h in
      let fits_x : fits_point da x.duty ≡ true = first (fits_point da x.duty) _ sx in
      let fits_y : fits_point db y.duty ≡ true = first (fits_point db y.duty) _ sy in
      let duties : x.duty ≡ y.duty = same-duty na nb da db formed.same formed.formed_a (same-protocol-syms na nb a b written formed.same.names formed.formed_a formed.formed_b) same-invariants same-procs x.duty y.duty (same-head _ _ _ _ h) ps.0 fits_x fits_y in
      let names : x.names ≡ y.names = same-names (name_of na) (name_of nb) (same-name na nb formed.same.names) x.names y.names (same-parts _ _ _ _ (same-head _ _ _ _ h1)) (parts-plain _ _ ps.1.0) in
      let vars : List Text = variables_in na da (proc_in x.duty) in
      let known : variables_in nb db (proc_in y.duty) ≡ vars = ap (λ d. variables_in nb db (proc_in d)) (sym duties) ∙ sym (same-variables (proc_in x.duty)) in
      let own : own_of y.duty ≡ own_of x.duty = ap own_of (sym duties) in
      let rules : rule_of na da (own_of x.duty) x.script.rule ≡ rule_of nb db (own_of x.duty) y.script.rule = same-head _ _ _ _ (same-tail _ _ _ _ h1) ∙ ap (λ o. rule_of nb db o y.script.rule) own in
      let said_x : says_rule na (other_words (variables_in na da (proc_in x.duty)) env.words) x.script.rule ≡ true = second (fits_point da x.duty) _ sx in
      let said_y : says_rule nb (other_words (variables_in nb db (proc_in y.duty)) env.words) y.script.rule ≡ true = second (fits_point db y.duty) _ sy in
      let also_y : says_rule nb (other_words vars env.words) y.script.rule ≡ true = ap (λ (texts : List Text). says_rule nb (other_words texts env.words) y.script.rule) (sym known) ∙ said_y in
      let scripts = same-rule na nb da db (own_of x.duty) (alike na nb da db formed.same (own_of x.duty)) (other_words vars env.words) x.script.rule y.script.rule (part_at tree 3) x.script.place y.script.place
      rules said_x also_y ps.1.1.0 (second (same_place x.place (place_of tree)) _ tx) (second (same_place y.place (place_of tree)) _ ty) in
      let places : x.place ≡ y.place = one-place-of x.place y.place tree (first (same_place x.place (place_of tree)) _ tx) (first (same_place y.place (place_of tree)) _ ty) in
      λ i. record { duty = duties i; names = names i; script = record { rule = scripts.0 i; place = scripts.1 i }; place = places i }

  proof-at : (n : ℕ) (x y : Proof) → slice_get a.proofs n ≡ Some x → slice_get b.proofs n ≡ Some y → x ≡ y
  proof-at n x y hx hy =
      let t : Twice na nb a b kind.Proof n = twice na nb a b written kind.Proof n (within a.proofs n x hx) in
      same-proof t.env t.tree x y (found-shown (proof_of na da) (proof_of nb db) (slice_get a.proofs n) (slice_get b.proofs n) x y hx hy t.shown)
      (found-says (says_proof na t.env da) (slice_get a.proofs n) x hx t.says_a) (found-says (says_proof nb t.env db) (slice_get b.proofs n) y hy t.says_b)
      (found-plain (proof_of na da) (slice_get a.proofs n) x hx (t.plain refl))
      (found-says (proof_stands t.tree) (slice_get a.proofs n) x hx t.stands_a) (found-says (proof_stands t.tree) (slice_get b.proofs n) y hy t.stands_b)

  pub same-proofs : a.proofs ≡ b.proofs
  same-proofs = same-lists a.proofs b.proofs (same-count na nb a b written kind.Proof) proof-at

  pub same-decls : da ≡ db
  same-decls =
      let nodes : da.inst.nodes ≡ db.inst.nodes = same-nodes na nb a b written in
      λ i. record {
        inst = record { nodes = nodes i; protocols = same-protocols i; of = formed.same.of i };
        labels = formed.same.labels i;
        hooks = same-hooks i;
        worlds = same-worlds i;
        invariants = same-invariants i;
        procs = same-procs i;
        deploy = same-deploy i;
      }
