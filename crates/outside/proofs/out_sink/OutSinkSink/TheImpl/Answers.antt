use Rattle.std.proofs.Common.{refl, arith}
use Rattle.std.proofs.lemmas.Result.{on_err_weaker}
use Rattle.outside.proofs.FaultLemmas.{HasRisen-from_one_more}
use Rattle.outside.proofs.ResultLemmas.{OnOk-always, OnErr-always}
use Rattle.outside.proofs.out_sink.OutSinkSink.TheImpl.Goals as goal

pub put-tells : goal.put-tells
put-tells g c = record {
  written = OnOk-always c.result _ refl;
  cut = OnErr-always c.result _ (0, omega arith, refl);
  failed = on_err_weaker c.result (HasRisen-from_one_more c.args.self.now c.new.self.now) c.ensures.fault;
  never_falls = c.ensures.never_falls;
}
