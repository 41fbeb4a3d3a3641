-- The file whose invariant is proved is formed, and so is the file whose programs have no fault.
use Rattle.std.proofs.Common.{◌≡◌, ℕ, Some, refl, lit<, arith}
use Rattle.std.specs.Prelude.{slice_get}
use Rattle.dl_term.specs.Syntax.{opened}
use Rattle.dl_term.specs.declared.syntax.Formula.{True}
use Rattle.dl_model.specs.declared.file.Decls.{Decls}
use Rattle.dl_model.specs.declared.program.Proc.{Proc}
use Rattle.dl_model.specs.Formed.{ProtocolIsFormed, ProcIsFormed, IsFormed}
use Rattle.dl_model.proofs.Examples.{one-of, two-of}
use Rattle.dl_faults.specs.Given.{FileIsFormed}
use Rattle.dl_faults.specs.Examples.{game, one_label, proved}
use Rattle.dl_faults.specs.ProgramExamples.{talk, near_with, far_with, small_world, talking, played}

game-formed : ProtocolIsFormed 1 game
unfolding opened
game-formed = record {
  few_fields = omega arith;
  few_tags = omega arith;
  field_names = record { distinct = tt; allowed = tt };
  tag_names = record { distinct = (refl, tt); allowed = (omega arith, tt) };
  fields = tt;
  tags = (
    record {
      args = (omega arith, tt);
      names = record { distinct = tt; allowed = tt };
      send = record { guard = ((tt, tt), refl); updates = tt; once = tt };
      receive = tt;
    },
    tt,
  );
  coherence = tt;
}

one_label-formed : IsFormed one_label
unfolding opened
one_label-formed = record {
  small = record { some_node = omega arith; nodes = omega arith; labels = omega arith; protocols = omega arith; hooks = omega arith; worlds = omega arith; invariants = omega arith; procs = omega arith; points = omega arith };
  inst = record { protocols = one-of (λ n protocol. ProtocolIsFormed 1 protocol) game game-formed; labels = (lit< tt, tt) };
  label_names = refl;
  hooks = tt;
  worlds = (record { labels = (lit< tt, tt); hooks = tt; labels_once = (refl, tt); hooks_once = tt }, tt);
  invariants = one-of _ _ (record { world = lit< tt; formula = ((refl, refl, (refl, (refl, refl))), (lit< tt, tt)) });
  procs = λ number proc e. cc;
  deploy = (lit< tt, tt, tt);
  names = record { distinct = (refl, (refl, (refl, (refl, tt)))); allowed = (omega arith, (omega arith, (omega arith, (omega arith, tt)))) };
  apart = (refl, tt);
}

pub proved-formed : FileIsFormed proved
unfolding opened
proved-formed = record {
  decls = one_label-formed;
  deployed = refl;
  texts = (lit< tt, tt);
  variables = (lit< tt, (lit< tt, tt));
  proofs = (record { count = refl; distinct = (refl, (refl, tt)); new = (refl, (refl, tt)); unbound = (refl, (refl, tt)) }, tt);
  once = refl;
}

-- ---- with procedures

abbrev near : Proc
near = near_with 0 0 True True

abbrev far : Proc
far = far_with 0 True

abbrev talks : Decls
talks = talking (small_world 0) near far

talk-formed : ProtocolIsFormed 2 talk
unfolding opened
talk-formed = record {
  few_fields = omega arith;
  few_tags = omega arith;
  field_names = record { distinct = tt; allowed = tt };
  tag_names = record { distinct = (refl, tt); allowed = (omega arith, tt) };
  fields = tt;
  tags = (
    record {
      args = (omega arith, tt);
      names = record { distinct = tt; allowed = tt };
      send = record { guard = ((tt, tt), refl); updates = tt; once = tt };
      receive = record { guard = ((tt, tt), refl); updates = tt; once = tt };
    },
    tt,
  );
  coherence = tt;
}

near-formed : ProcIsFormed talks 0 near
unfolding opened
near-formed = record {
  world = lit< tt;
  params = (omega arith, tt);
  few_locals = omega arith;
  names = record { distinct = (refl, tt); allowed = (omega arith, tt) };
  pre = (tt, tt);
  post = (tt, tt);
  body = ((tt, tt), refl, refl, (refl, lit< tt), tt, ((tt, tt), refl, refl, ((refl, tt), (refl, tt)), tt));
  result = (refl, lit< tt);
}

far-formed : ProcIsFormed talks 1 far
unfolding opened
far-formed = record {
  world = lit< tt;
  params = (omega arith, tt);
  few_locals = omega arith;
  names = record { distinct = (refl, tt); allowed = (omega arith, tt) };
  pre = (tt, tt);
  post = (tt, tt);
  body = ((tt, tt), (tt, tt), ((refl, tt), (refl, tt)), lit< tt, refl, tt, tt);
  result = (refl, tt);
}

procs-formed : (number : ℕ) (proc : Proc) → slice_get talks.procs number ≡ Some proc → ProcIsFormed talks number proc
procs-formed = two-of (ProcIsFormed talks) near far near-formed far-formed

talks-formed : IsFormed talks
unfolding opened
talks-formed = record {
  small = record { some_node = omega arith; nodes = omega arith; labels = omega arith; protocols = omega arith; hooks = omega arith; worlds = omega arith; invariants = omega arith; procs = omega arith; points = omega arith };
  inst = record { protocols = one-of (λ n protocol. ProtocolIsFormed 2 protocol) talk talk-formed; labels = (lit< tt, (lit< tt, tt)) };
  label_names = refl;
  hooks = (record { core = lit< tt; client = lit< tt; tag = refl; args = refl; names = record { distinct = tt; allowed = tt }; formula = ((tt, tt), refl) }, tt);
  worlds = (
    record { labels = (lit< tt, (lit< tt, tt)); hooks = (lit< tt, tt); labels_once = (refl, (refl, tt)); hooks_once = (refl, tt) },
    (record { labels = (lit< tt, tt); hooks = tt; labels_once = (refl, tt); hooks_once = tt }, tt),
  );
  invariants = λ i invariant e. cc;
  procs = procs-formed;
  deploy = (lit< tt, (record { node = lit< tt; proc = lit< tt; constants = refl }, tt), (refl, tt));
  names = record {
    distinct = (refl, (refl, (refl, (refl, (refl, (refl, (refl, (refl, tt))))))));
    allowed = (omega arith, (omega arith, (omega arith, (omega arith, (omega arith, (omega arith, (omega arith, (omega arith, tt))))))));
  };
  apart = tt;
}

pub played-formed : FileIsFormed played
unfolding opened
played-formed = record {
  decls = talks-formed;
  deployed = refl;
  texts = tt;
  variables = (lit< tt, (lit< tt, (lit< tt, (lit< tt, tt))));
  proofs = tt;
  once = refl;
}
