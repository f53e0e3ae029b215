pub mod PredPromise
