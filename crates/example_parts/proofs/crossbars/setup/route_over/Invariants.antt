use Rattle.diag_tests.specs.Routes.{IsRoute}
use Rattle.example_parts.proofs.crossbars.setup.route_over.Given as goal

abbrev pub invariant-crosses : goal.invariant-crosses
invariant-crosses l = IsRoute l.shape l.route
