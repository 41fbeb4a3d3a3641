-- A file keeps to the worlds of its procedures and of its deployment just where nothing is wrong with them.
use Rattle.std.proofs.Common.{◌≡◌, ℕ, ◌+◌, ◌<◌, ◌==◌, Bool, true, false, cond, if◌then◌else◌, List, [], ◌∷◌, ◌++◌, map, drop, Option, Some, None, Result, Ok, Err, length, refl, ap, sym, ◌∙◌, subst, eq-eqb, unwrap_or, IsOk}
use Rattle.std.specs.List.{AllByRecursion as Each, list_all, list_any, flat_map, enumerate_from}
use Rattle.dl_term.specs.declared.syntax.Lab.{Lab}
use Rattle.dl_term.specs.declared.syntax.Lab.TheVariants.{Own, At}
use Rattle.dl_term.specs.declared.syntax.Formula.{Formula}
use Rattle.dl_tree.specs.declared.tree.Place.{Place}
use Rattle.dl_tree.specs.declared.tree.Tree.{Tree}
use Rattle.dl_tree.specs.TreePlace.{place_of}
use Rattle.dl_model.specs.declared.program.Proc.{Proc}
use Rattle.dl_model.specs.declared.file.World.{World}
use Rattle.dl_model.specs.declared.file.Program.{Program}
use Rattle.dl_model.specs.declared.file.Deploy.{Deploy}
use Rattle.dl_model.specs.declared.file.Decls.{Decls}
use Rattle.dl_model.specs.Block.{Block, Done, Sends, Awaits, Polls, Reads, Sets, Ifs, Whiles, Calls, block_of}
use Rattle.dl_model.specs.Sorts.{has}
use Rattle.dl_model.specs.Lookup.{world_at, world_of, composed, deploy_of, proc_at, no_proc, program_in, program_of}
use Rattle.dl_model.specs.Spoken.{labels_of}
use Rattle.dl_model.specs.Worlds.{Injects, IsAbout, IsApart, BlockKeepsWorlds, ProcKeepsWorlds, is_label_of}
use Rattle.dl_model.specs.Formed.{AreDistinct, DeployIsFormed, IsFormed}
use Rattle.dl_model.proofs.Small.{and-left, and-right, and-both, or-left, or-right, or-both, some-same, each-map, eqb-other}
use Rattle.dl_inv.proofs.Lists.{each-get, each-found}
use Rattle.dl_sound.proofs.Members.{get-within, within-get}
use Rattle.dl_world.specs.declared.inject.InjectFault.{InjectFault}
use Rattle.dl_world.specs.declared.inject.InjectFault.TheVariants.{NoLabel, NotCovered}
use Rattle.dl_world.specs.Injected.{HooksAreDeclared, injection}
use Rattle.dl_world.proofs.Injecting.{injection-says}
use Rattle.dl_file.specs.declared.file.File.{File}
use Rattle.dl_faults.specs.declared.wrong.Wrong.{Wrong}
use Rattle.dl_faults.specs.Injections.{injection_wrong}
use Rattle.dl_faults.specs.Places.{parts_of}
use Rattle.dl_faults.specs.ProgramPlaces.{tree_at, part_at, label_list, proc_tree, formula_in, behind, body_of, program_place}
use Rattle.dl_faults.specs.Programs.{named_wrong, spoken_wrong, formula_wrong, touching_wrong, touched_wrong, frame_wrong, said_wrong, call_wrong, block_wrong, proc_wrong_at, proc_wrong, program_wrong, program_wrongs}
use Rattle.dl_faults.proofs.Nothing.{front-none, back-none, both-none, numbered-none, none-numbered, each-position, unless-fine, fine-unless}

-- ---- labels

module _ (world : World) (tree : Tree) where
  labels-about : (n : ℕ) (labels : List Lab) → flat_map (spoken_wrong world tree) (enumerate_from n labels) ≡ [] → list_all (is_label_of world) labels ≡ true
  labels-about n [] h = refl
  labels-about n (label ∷ labels) h =
      and-both (is_label_of world label) (list_all (is_label_of world) labels)
      (unless-fine (is_label_of world label) _ (front-none (spoken_wrong world tree (n, label)) (flat_map (spoken_wrong world tree) (enumerate_from (n + 1) labels)) h))
      (labels-about (n + 1) labels (back-none (spoken_wrong world tree (n, label)) (flat_map (spoken_wrong world tree) (enumerate_from (n + 1) labels)) h))

  about-labels : (n : ℕ) (labels : List Lab) → list_all (is_label_of world) labels ≡ true → flat_map (spoken_wrong world tree) (enumerate_from n labels) ≡ []
  about-labels n [] h = refl
  about-labels n (label ∷ labels) h =
      both-none (spoken_wrong world tree (n, label)) (flat_map (spoken_wrong world tree) (enumerate_from (n + 1) labels))
      (fine-unless (is_label_of world label) _ (and-left _ _ h))
      (about-labels (n + 1) labels (and-right (is_label_of world label) _ h))

  none-about : (f : Formula) → formula_wrong world tree f ≡ [] → IsAbout world f
  none-about f h = labels-about 0 (labels_of f) h

  about-none : (f : Formula) → IsAbout world f → formula_wrong world tree f ≡ []
  about-none f h = about-labels 0 (labels_of f) h

-- ---- frames

if-none : (b : Bool) (wrong : Wrong) → (if b then wrong ∷ [] else []) ≡ [] → b ≡ false
if-none true wrong h = cc
if-none false wrong h = refl

none-if : (b : Bool) (wrong : Wrong) → b ≡ false → (if b then wrong ∷ [] else []) ≡ []
none-if true wrong h = cc
none-if false wrong h = refl

module _ (callee : World) where
  untouched : (place : Place) (label : Lab) → touching_wrong callee place label ≡ [] → is_label_of callee label ≡ false
  untouched place Own h = refl
  untouched place (At label) h = if-none (has callee.labels label) _ h

  touching-none : (place : Place) (label : Lab) → is_label_of callee label ≡ false → touching_wrong callee place label ≡ []
  touching-none place Own h = refl
  touching-none place (At label) h = none-if (has callee.labels label) _ h

  module _ (tree : Tree) where
    labels-apart : (n : ℕ) (labels : List Lab) → flat_map (touched_wrong callee tree) (enumerate_from n labels) ≡ [] → list_any (is_label_of callee) labels ≡ false
    labels-apart n [] h = refl
    labels-apart n (label ∷ labels) h =
        or-both (is_label_of callee label) (list_any (is_label_of callee) labels)
        (untouched (place_of (label_list tree n)) label (front-none (touched_wrong callee tree (n, label)) (flat_map (touched_wrong callee tree) (enumerate_from (n + 1) labels)) h))
        (labels-apart (n + 1) labels (back-none (touched_wrong callee tree (n, label)) (flat_map (touched_wrong callee tree) (enumerate_from (n + 1) labels)) h))

    apart-labels : (n : ℕ) (labels : List Lab) → list_any (is_label_of callee) labels ≡ false → flat_map (touched_wrong callee tree) (enumerate_from n labels) ≡ []
    apart-labels n [] h = refl
    apart-labels n (label ∷ labels) h =
        both-none (touched_wrong callee tree (n, label)) (flat_map (touched_wrong callee tree) (enumerate_from (n + 1) labels))
        (touching-none (place_of (label_list tree n)) label (or-left (is_label_of callee label) (list_any (is_label_of callee) labels) h))
        (apart-labels (n + 1) labels (or-right (is_label_of callee label) (list_any (is_label_of callee) labels) h))

-- ---- injections

pub ok-injection : (place : Place) (r : Result (Unit {0}) InjectFault) → injection_wrong place r ≡ [] → IsOk r
ok-injection place (Ok u) h = refl
ok-injection place (Err (NoLabel label)) h = cc
ok-injection place (Err (NotCovered hook)) h = cc

pub injection-ok : (place : Place) (r : Result (Unit {0}) InjectFault) → IsOk r → injection_wrong place r ≡ []
injection-ok place (Ok u) h = refl
injection-ok place (Err (NoLabel label)) h = cc
injection-ok place (Err (NotCovered hook)) h = cc

module _ (d : Decls) (formed : IsFormed d) where
  pub hooks-declared : (w : ℕ) → HooksAreDeclared d (world_at d w)
  hooks-declared w =
      each-get (HooksAreDeclared d) d.worlds w (record { sym = 0; labels = []; hooks = [] }) tt (each-map _ (HooksAreDeclared d) d.worlds formed.worlds (λ world f. f.hooks))

  pub none-injects : (place : Place) (v w : ℕ) → injection_wrong place (injection d (world_at d v) (world_at d w)) ≡ [] → Injects d (world_at d v) (world_at d w)
  none-injects place v w h =
      (injection-says d (world_at d v) (world_at d w) (hooks-declared v) (hooks-declared w)).0 (ok-injection place (injection d (world_at d v) (world_at d w)) h)

  pub injects-none : (place : Place) (v w : ℕ) → Injects d (world_at d v) (world_at d w) → injection_wrong place (injection d (world_at d v) (world_at d w)) ≡ []
  injects-none place v w h =
      injection-ok place (injection d (world_at d v) (world_at d w)) ((injection-says d (world_at d v) (world_at d w) (hooks-declared v) (hooks-declared w)).1 h)

-- ---- commands

module _ (file : File) (formed : IsFormed file.decls) (w : ℕ) where
  abbrev world : World
  world = world_at file.decls w

  said-kept : (tree : Tree) (note : Formula) (part label : ℕ) → said_wrong world tree note part label ≡ [] → IsAbout world note × (has world.labels label ≡ true)
  said-kept tree note part label h = (
    none-about world (part_at tree 1) note (front-none (formula_wrong world (part_at tree 1) note) (named_wrong world (part_at tree part) label) h),
    unless-fine (has world.labels label) _ (back-none (formula_wrong world (part_at tree 1) note) (named_wrong world (part_at tree part) label) h),
  )

  kept-said : (tree : Tree) (note : Formula) (part label : ℕ) → IsAbout world note → has world.labels label ≡ true → said_wrong world tree note part label ≡ []
  kept-said tree note part label h k =
      both-none (formula_wrong world (part_at tree 1) note) (named_wrong world (part_at tree part) label) (about-none world (part_at tree 1) note h) (fine-unless (has world.labels label) _ k)

  -- the world of the callee is that with this number
  call-kept : (tree : Tree) (note frame : Formula) (v : ℕ) → call_wrong file world tree note frame (world_at file.decls v) ≡ [] →
      IsAbout world note × (IsAbout world frame × IsApart (world_at file.decls v) frame × Injects file.decls (world_at file.decls v) world)
  call-kept tree note frame v h =
      let callee = world_at file.decls v in
      let notes = formula_wrong world (part_at tree 1) note in
      let frames = formula_wrong world (part_at tree 2) frame in
      let apart = frame_wrong callee (part_at tree 2) frame in
      let injected = injection_wrong (place_of tree) (injection file.decls callee world) in
      let about = front-none (notes ++ frames) (apart ++ injected) h in
      let rest = back-none (notes ++ frames) (apart ++ injected) h in (
        none-about world (part_at tree 1) note (front-none notes frames about),
        (none-about world (part_at tree 2) frame (back-none notes frames about), labels-apart callee (part_at tree 2) 0 (labels_of frame) (front-none apart injected rest), none-injects file.decls formed (place_of tree) v w (back-none apart injected rest)),
      )

  kept-call : (tree : Tree) (note frame : Formula) (v : ℕ) → IsAbout world note → IsAbout world frame → IsApart (world_at file.decls v) frame → Injects file.decls (world_at file.decls v) world →
      call_wrong file world tree note frame (world_at file.decls v) ≡ []
  kept-call tree note frame v h k apart injected =
      let callee = world_at file.decls v in
      both-none (formula_wrong world (part_at tree 1) note ++ formula_wrong world (part_at tree 2) frame) (frame_wrong callee (part_at tree 2) frame ++ injection_wrong (place_of tree) (injection file.decls callee world))
      (both-none (formula_wrong world (part_at tree 1) note) (formula_wrong world (part_at tree 2) frame) (about-none world (part_at tree 1) note h) (about-none world (part_at tree 2) frame k))
      (both-none (frame_wrong callee (part_at tree 2) frame) (injection_wrong (place_of tree) (injection file.decls callee world)) (apart-labels callee (part_at tree 2) 0 (labels_of frame) apart) (injects-none file.decls formed (place_of tree) v w injected))

  block-kept : (block : Block) (whole : Tree) (trees : List Tree) (n : ℕ) → block_wrong file world whole trees n block ≡ [] → BlockKeepsWorlds file.decls world block
  block-kept Done whole trees n h = tt
  block-kept (Sends note label tag to args rest) whole trees n h =
      let here = said_wrong world (tree_at whole trees n) note 2 label in
      let later = block_wrong file world whole trees (n + 1) rest in
      let s = said-kept (tree_at whole trees n) note 2 label (front-none here later h) in
      (s.0, s.1, block-kept rest whole trees (n + 1) (back-none here later h))
  block-kept (Awaits note label tag sender args rest) whole trees n h =
      let here = said_wrong world (tree_at whole trees n) note 2 label in
      let later = block_wrong file world whole trees (n + 1) rest in
      let s = said-kept (tree_at whole trees n) note 2 label (front-none here later h) in
      (s.0, s.1, block-kept rest whole trees (n + 1) (back-none here later h))
  block-kept (Polls note got label tag sender args rest) whole trees n h =
      let here = said_wrong world (tree_at whole trees n) note 3 label in
      let later = block_wrong file world whole trees (n + 1) rest in
      let s = said-kept (tree_at whole trees n) note 3 label (front-none here later h) in
      (s.0, s.1, block-kept rest whole trees (n + 1) (back-none here later h))
  block-kept (Reads note into label field index rest) whole trees n h =
      let here = said_wrong world (tree_at whole trees n) note 3 label in
      let later = block_wrong file world whole trees (n + 1) rest in
      let s = said-kept (tree_at whole trees n) note 3 label (front-none here later h) in
      (s.0, s.1, block-kept rest whole trees (n + 1) (back-none here later h))
  block-kept (Sets target value rest) whole trees n h = block-kept rest whole trees (n + 1) h
  block-kept (Ifs test left right rest) whole trees n h =
      let tree = tree_at whole trees n in
      let first = block_wrong file world whole (behind (part_at tree 2)) 0 left in
      let second = block_wrong file world whole (behind (part_at tree 3)) 0 right in
      let later = block_wrong file world whole trees (n + 1) rest in
      let sides = front-none (first ++ second) later h in (
        block-kept left whole (behind (part_at tree 2)) 0 (front-none first second sides),
        block-kept right whole (behind (part_at tree 3)) 0 (back-none first second sides),
        block-kept rest whole trees (n + 1) (back-none (first ++ second) later h),
      )
  block-kept (Whiles test note body rest) whole trees n h =
      let tree = tree_at whole trees n in
      let notes = formula_wrong world (part_at tree 2) note in
      let inside = block_wrong file world whole (drop 3 (parts_of tree)) 0 body in
      let later = block_wrong file world whole trees (n + 1) rest in
      let loop = front-none (notes ++ inside) later h in (
        none-about world (part_at tree 2) note (front-none notes inside loop),
        block-kept body whole (drop 3 (parts_of tree)) 0 (back-none notes inside loop),
        block-kept rest whole trees (n + 1) (back-none (notes ++ inside) later h),
      )
  block-kept (Calls note frame into callee args rest) whole trees n h =
      let here = call_wrong file world (tree_at whole trees n) note frame (world_of file.decls callee) in
      let later = block_wrong file world whole trees (n + 1) rest in
      let c = call-kept (tree_at whole trees n) note frame (proc_at file.decls.procs callee).world (front-none here later h) in
      (c.0, c.1, block-kept rest whole trees (n + 1) (back-none here later h))

  kept-block : (block : Block) (whole : Tree) (trees : List Tree) (n : ℕ) → BlockKeepsWorlds file.decls world block → block_wrong file world whole trees n block ≡ []
  kept-block Done whole trees n k = refl
  kept-block (Sends note label tag to args rest) whole trees n k =
      both-none (said_wrong world (tree_at whole trees n) note 2 label) (block_wrong file world whole trees (n + 1) rest) (kept-said (tree_at whole trees n) note 2 label k.0 k.1) (kept-block rest whole trees (n + 1) k.2)
  kept-block (Awaits note label tag sender args rest) whole trees n k =
      both-none (said_wrong world (tree_at whole trees n) note 2 label) (block_wrong file world whole trees (n + 1) rest) (kept-said (tree_at whole trees n) note 2 label k.0 k.1) (kept-block rest whole trees (n + 1) k.2)
  kept-block (Polls note got label tag sender args rest) whole trees n k =
      both-none (said_wrong world (tree_at whole trees n) note 3 label) (block_wrong file world whole trees (n + 1) rest) (kept-said (tree_at whole trees n) note 3 label k.0 k.1) (kept-block rest whole trees (n + 1) k.2)
  kept-block (Reads note into label field index rest) whole trees n k =
      both-none (said_wrong world (tree_at whole trees n) note 3 label) (block_wrong file world whole trees (n + 1) rest) (kept-said (tree_at whole trees n) note 3 label k.0 k.1) (kept-block rest whole trees (n + 1) k.2)
  kept-block (Sets target value rest) whole trees n k = kept-block rest whole trees (n + 1) k
  kept-block (Ifs test left right rest) whole trees n k =
      let tree = tree_at whole trees n in
      let first = block_wrong file world whole (behind (part_at tree 2)) 0 left in
      let second = block_wrong file world whole (behind (part_at tree 3)) 0 right in
      both-none (first ++ second) (block_wrong file world whole trees (n + 1) rest)
      (both-none first second (kept-block left whole (behind (part_at tree 2)) 0 k.0) (kept-block right whole (behind (part_at tree 3)) 0 k.1))
      (kept-block rest whole trees (n + 1) k.2)
  kept-block (Whiles test note body rest) whole trees n k =
      let tree = tree_at whole trees n in
      let notes = formula_wrong world (part_at tree 2) note in
      let inside = block_wrong file world whole (drop 3 (parts_of tree)) 0 body in
      both-none (notes ++ inside) (block_wrong file world whole trees (n + 1) rest)
      (both-none notes inside (about-none world (part_at tree 2) note k.0) (kept-block body whole (drop 3 (parts_of tree)) 0 k.1))
      (kept-block rest whole trees (n + 1) k.2)
  kept-block (Calls note frame into callee args rest) whole trees n k =
      both-none (call_wrong file world (tree_at whole trees n) note frame (world_of file.decls callee)) (block_wrong file world whole trees (n + 1) rest)
      (kept-call (tree_at whole trees n) note frame (proc_at file.decls.procs callee).world k.0 k.1.0 k.1.1 k.1.2)
      (kept-block rest whole trees (n + 1) k.2)

-- ---- procedures

-- `ProcKeepsWorlds`, for the procedure itself
pub record ProcIsKept (d : Decls) (proc : Proc) : Type 0 where
  pub pre : IsAbout (world_at d proc.world) proc.pre
  pub post : IsAbout (world_at d proc.world) proc.post
  pub body : BlockKeepsWorlds d (world_at d proc.world) (block_of proc.body)

module _ (file : File) (formed : IsFormed file.decls) where
  proc-kept : (tree : Tree) (proc : Proc) → proc_wrong_at file (world_at file.decls proc.world) tree proc ≡ [] → ProcIsKept file.decls proc
  proc-kept tree proc h =
      let world = world_at file.decls proc.world in
      let before = formula_wrong world (formula_in tree 5) proc.pre in
      let after = formula_wrong world (formula_in tree 6) proc.post in
      let commands = block_wrong file world tree (body_of tree) 0 (block_of proc.body) in
      let both = front-none (before ++ after) commands h in
      record {
        pre = none-about world (formula_in tree 5) proc.pre (front-none before after both);
        post = none-about world (formula_in tree 6) proc.post (back-none before after both);
        body = block-kept file formed proc.world (block_of proc.body) tree (body_of tree) 0 (back-none (before ++ after) commands h);
      }

  kept-proc : (tree : Tree) (proc : Proc) → ProcIsKept file.decls proc → proc_wrong_at file (world_at file.decls proc.world) tree proc ≡ []
  kept-proc tree proc k =
      let world = world_at file.decls proc.world in
      let before = formula_wrong world (formula_in tree 5) proc.pre in
      let after = formula_wrong world (formula_in tree 6) proc.post in
      both-none (before ++ after) (block_wrong file world tree (body_of tree) 0 (block_of proc.body))
      (both-none before after (about-none world (formula_in tree 5) proc.pre k.pre) (about-none world (formula_in tree 6) proc.post k.post))
      (kept-block file formed proc.world (block_of proc.body) tree (body_of tree) 0 k.body)

  -- ---- programs

  found-program : (P : Program → Type 0) (programs : List Program) (node : ℕ) (program : Program) → Each P programs → program_in programs node ≡ Some program → P program
  found-program P [] node program each e = cc
  found-program P (first ∷ programs) node program each e = go (node == first.node) (found-program P programs node program each.1) e
    where
      go : (b : Bool) → (program_in programs node ≡ Some program → P program) → cond b (Some first) (program_in programs node) ≡ Some program → P program
      go true later e = subst P (some-same first program e) each.0
      go false later e = later e

  -- each program is the one of its node
  abbrev IsOf : List Program → Program → Type 0
  IsOf programs program = program_in programs program.node ≡ Some program

  still-of : (first : Program) (programs whole : List Program) → has (map (λ (program : Program). program.node) programs) first.node ≡ false → Each (IsOf whole) programs → Each (IsOf (first ∷ whole)) programs
  still-of first [] whole other h = tt
  still-of first (program ∷ programs) whole other h = (
    (let apart : (first.node == program.node) ≡ false = or-left (first.node == program.node) (has (map (λ (p : Program). p.node) programs) first.node) other in
        let turned : (program.node == first.node) ≡ false = eqb-other program.node first.node (λ e. let same : (first.node == program.node) ≡ true = eq-eqb first.node program.node (sym e) in cc) in
        ap (λ b. cond b (Some first) (program_in whole program.node)) turned ∙ h.0),
    still-of first programs whole (or-right (first.node == program.node) (has (map (λ (p : Program). p.node) programs) first.node) other) h.1,
  )

  each-of : (programs : List Program) → AreDistinct (map (λ (program : Program). program.node) programs) → Each (IsOf programs) programs
  each-of [] h = tt
  each-of (program ∷ programs) h = (
    ap (λ b. cond b (Some program) (program_in programs program.node)) (eq-eqb program.node program.node refl),
    still-of program programs programs h.0 (each-of programs h.1),
  )

  deployed-of : (deploy : Option Deploy) → DeployIsFormed file.decls deploy → Each (IsOf (unwrap_or deploy (record { world = 0; programs = [] })).programs) (unwrap_or deploy (record { world = 0; programs = [] })).programs
  deployed-of (Some deploy) h = each-of deploy.programs h.2
  deployed-of None h = tt

  -- ---- both ways

  module _ (none : program_wrongs file ≡ []) where
    abbrev of_procs : List Wrong
    of_procs = flat_map (proc_wrong file) (enumerate_from 0 file.decls.procs)

    abbrev of_programs : List Wrong
    of_programs = flat_map (program_wrong file) (enumerate_from 0 (deploy_of file.decls).programs)

    pub procs-keep : (proc : ℕ) → proc < length file.decls.procs → ProcKeepsWorlds file.decls proc
    procs-keep number below =
        let there = within-get file.decls.procs number below in
        let is : proc_at file.decls.procs number ≡ there.0 = ap (λ o. unwrap_or o no_proc) there.1 in
        let found = each-found (λ proc. (k : ℕ) × (proc_wrong file (k, proc) ≡ [])) file.decls.procs number there.0
        (numbered-none (proc_wrong file) 0 file.decls.procs (front-none of_procs of_programs none)) there.1 in
        let kept = subst (ProcIsKept file.decls) (sym is) (proc-kept (proc_tree file.tree found.0) there.0 found.1) in
        record { pre = kept.pre; post = kept.post; body = kept.body }

    pub programs-inject : (node : ℕ) (program : Program) → program_of file.decls node ≡ Some program → Injects file.decls (world_of file.decls program.proc) (composed file.decls)
    programs-inject node program e =
        let found = found-program (λ program. (k : ℕ) × (program_wrong file (k, program) ≡ [])) (deploy_of file.decls).programs node program
        (numbered-none (program_wrong file) 0 (deploy_of file.decls).programs (back-none of_procs of_programs none)) e in
        none-injects file.decls formed (program_place file.tree found.0) (proc_at file.decls.procs program.proc).world (deploy_of file.decls).world found.1

  pub programs-kept : ((proc : ℕ) → proc < length file.decls.procs → ProcKeepsWorlds file.decls proc) →
      ((node : ℕ) (program : Program) → program_of file.decls node ≡ Some program → Injects file.decls (world_of file.decls program.proc) (composed file.decls)) → program_wrongs file ≡ []
  programs-kept procs programs =
      both-none (flat_map (proc_wrong file) (enumerate_from 0 file.decls.procs)) (flat_map (program_wrong file) (enumerate_from 0 (deploy_of file.decls).programs))
      (none-numbered (proc_wrong file) 0 file.decls.procs (each-position (λ proc. (k : ℕ) → proc_wrong file (k, proc) ≡ []) file.decls.procs (λ number proc e k.
      let is : proc_at file.decls.procs number ≡ proc = ap (λ o. unwrap_or o no_proc) e in
      let keeps = procs number (get-within file.decls.procs number proc e) in
      kept-proc (proc_tree file.tree k) proc (subst (ProcIsKept file.decls) is (record { pre = keeps.pre; post = keeps.post; body = keeps.body })))))
      (none-numbered (program_wrong file) 0 (deploy_of file.decls).programs
      (each-map (IsOf (deploy_of file.decls).programs) (λ program. (k : ℕ) → program_wrong file (k, program) ≡ []) (deploy_of file.decls).programs (deployed-of file.decls.deploy formed.deploy) (λ program e k.
      injects-none file.decls formed (program_place file.tree k) (proc_at file.decls.procs program.proc).world (deploy_of file.decls).world (programs program.node program e))))
