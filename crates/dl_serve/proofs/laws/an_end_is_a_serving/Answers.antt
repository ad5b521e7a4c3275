use Rattle.dl_serve.proofs.Servings.{a_serving}
use Rattle.dl_serve.proofs.laws.an_end_is_a_serving.Goals as goal

pub returns : goal.returns
returns g c = λ said old new err err_now status closed ended told. a_serving g.L.Link.told said old new err err_now status closed ended told
