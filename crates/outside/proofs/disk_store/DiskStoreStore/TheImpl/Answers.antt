use Rattle.std.proofs.Common.{refl, ap, inl}
use Rattle.std.proofs.lemmas.Result.{on_err_weaker}
use Rattle.outside.specs.Faults.{FaultCounts}
use Rattle.outside.proofs.FaultLemmas.{HasRisen-from_one_more}
use Rattle.outside.proofs.ResultLemmas.{OnOk-always, OnErr-always, IfOk-always}
use Rattle.outside.proofs.disk_store.DiskStoreStore.TheImpl.Goals as goal

pub read-tells : goal.read-tells
read-tells g c = record {
  bytes = IfOk-always c.result _ (λ bytes. tt);
  most = c.ensures.most;
  missing = λ missing. tt;
  missing_is_no_fault = λ missing. ap (λ (counts : FaultCounts). counts.read) (c.ensures.no_fault (λ failed. cc));
  failed = λ failed. HasRisen-from_one_more _ _ (ap (λ (counts : FaultCounts). counts.read) (c.ensures.fault failed));
  files = refl;
  never_falls = c.ensures.never_falls;
  write_faults = c.ensures.write_faults;
}

pub write-tells : goal.write-tells
write-tells g c = record {
  written = OnOk-always c.result _ refl;
  cut = OnErr-always c.result _ (inl refl);
  only_failed = c.ensures.only_failed;
  failed = on_err_weaker c.result (λ fault. HasRisen-from_one_more _ _ (ap (λ (counts : FaultCounts). counts.write) fault)) c.ensures.fault;
  never_falls = c.ensures.never_falls;
  read_faults = c.ensures.read_faults;
}
