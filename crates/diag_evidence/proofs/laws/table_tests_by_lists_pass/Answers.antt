use Rattle.diag_evidence.proofs.TableLists.{cell_passes, register_passes}
use Rattle.diag_evidence.proofs.laws.table_tests_by_lists_pass.Goals as goal

pub returns : goal.returns
returns c = record {
  cell = λ told k g left right ties t cells a drive answer config on off lefts rights driven. cell_passes told k g left right ties t cells drive answer config on off lefts rights driven a;
  register = λ told k g left right ties t cells s drive answer config on off lefts rights driven. register_passes told k g left right ties t cells drive answer config on off lefts rights driven s;
}
