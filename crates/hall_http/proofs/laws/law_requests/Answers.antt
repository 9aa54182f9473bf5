use Rattle.hall_http.proofs.Once.{one_request, one_first, one_list, one_record_list}
use Rattle.hall_http.proofs.Asked.{one_asked}
use Rattle.hall_http.proofs.laws.law_requests.Goals as goal

pub returns-clause-one_request : goal.returns-clause-one_request
returns-clause-one_request c = one_request

pub returns-clause-one_first : goal.returns-clause-one_first
returns-clause-one_first c = one_first

pub returns-clause-one_asked : goal.returns-clause-one_asked
returns-clause-one_asked c = one_asked

pub returns-clause-one_list : goal.returns-clause-one_list
returns-clause-one_list c = one_list

pub returns-clause-one_record_list : goal.returns-clause-one_record_list
returns-clause-one_record_list c = one_record_list
