use Rattle.std.proofs.Common.{refl}
use Rattle.des_cbc.specs.Tables.{initial, primitive, choice_1, choice_2}
use Rattle.des_cbc.specs.Selections.{select_1, select_2, select_3, select_4, select_5, select_6, select_7, select_8}
use Rattle.des_cbc.specs.inside.Shapes.{holds_each_once, initial_has_shape, primitive_has_shape, choice_1_has_shape, choice_2_has_shape, selections_have_shape}
use Rattle.des_cbc.proofs.tests.tables_have_shape.Goals as goal

pub returns-clause-initial : goal.returns-clause-initial
unfolding holds_each_once initial_has_shape initial
returns-clause-initial c = refl

pub returns-clause-primitive : goal.returns-clause-primitive
unfolding holds_each_once primitive_has_shape primitive
returns-clause-primitive c = refl

pub returns-clause-choice_1 : goal.returns-clause-choice_1
unfolding holds_each_once choice_1_has_shape choice_1
returns-clause-choice_1 c = refl

pub returns-clause-choice_2 : goal.returns-clause-choice_2
unfolding holds_each_once choice_2_has_shape choice_2
returns-clause-choice_2 c = refl

pub returns-clause-selections : goal.returns-clause-selections
unfolding holds_each_once selections_have_shape select_1 select_2 select_3 select_4 select_5 select_6 select_7 select_8
returns-clause-selections c = refl
