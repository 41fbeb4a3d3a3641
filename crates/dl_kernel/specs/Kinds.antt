-- Rules by the number of their sub-scripts.
use Rattle.std.specs.Prelude.{Bool, true, false}
use Rattle.dl_sequent.specs.declared.script.Rule.{Rule}
use Rattle.dl_sequent.specs.declared.script.Rule.TheBlock as r

-- the rule has one sub-script
abbrev pub has_one_script : Rule → Bool
has_one_script (r.Pick' _ _ _) = true
has_one_script (r.Intro' _ _ _) = true
has_one_script (r.Open' _ _ _) = true
has_one_script (r.Give' _ _ _) = true
has_one_script (r.Parts' _ _ _ _ _) = true
has_one_script (r.Inst' _ _ _ _ _) = true
has_one_script (r.Unpack' _ _ _ _ _) = true
has_one_script (r.Rewrite' _ _ _ _) = true
has_one_script (r.Reduce' _ _ _ _) = true
has_one_script (r.Range' _ _ _ _) = true
has_one_script _ = false
